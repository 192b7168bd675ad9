-- A check of the definitions.
-- The first call of seed 0.
use Rattle.std.specs.Prelude.{◌≡◌, [], ◌∷◌, refl}
use Rattle.rand_xoshiro.specs.SplitMix64.{mix_u64}
use Rattle.wait_model.specs.declared.calls.Call.TheVariants as call
use Rattle.wait_script.specs.declared.line.Line.TheVariants as line
use Rattle.drill_gen.specs.Drill.{int_ex, drill_of}

pub first_word : (mix_u64 0).0 ≡ 0xE220A8397B1DCDAF
first_word = refl

pub first_call : drill_of 0 1 ≡ line.Call 15 (call.Wait 3 int_ex) ∷ line.Step 15 40 ∷ []
first_call = refl
