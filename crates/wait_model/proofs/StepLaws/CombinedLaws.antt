-- The laws on bits, and the law of no lost wake, from what a step does to each part.
use Rattle.std.proofs.Common.{refl, sym, ◌∙◌, subst, inl, inr}
use Rattle.std.specs.Prelude.{ℕ, ◌≡◌, ◌≢◌, ◌⊎◌, Some, None, true, false, IsTrue}
use Rattle.wait_model.specs.{declared.watches.Watch.Watch, declared.watches.Entry.Entry, declared.steps.Step.Step}
use Rattle.wait_model.specs.{Fold.after, Functions.put}
use Rattle.wait_model.specs.Facts.{Facts, Roused, Selected, Kept}
use Rattle.wait_model.specs.Views.{Walk, View, covers}
use Rattle.wait_model.specs.Watches.{same, head_of, is_bit}
use Rattle.wait_model.specs.Tables.{Table, met, next}
use Rattle.wait_model.specs.Laws.{Waits, Covered, Spent, Tried, Excused, NoLostWake, Others}
use Rattle.wait_model.proofs.{StepLaws.OwnSteps.TriedMoves, StepLaws.OtherViews.apart, Functions.put_case}
use Rattle.wait_model.proofs.Functions.{put_at}
use Rattle.wait_model.proofs.StepLaws.UntouchedParts.{Ended, Carried, Free, Outcome, Moves, own_view}
use Rattle.wait_model.proofs.Sameness.{same_head, same_bit, same_bit_is, bit_not_counted}
use Rattle.wait_model.specs.declared.steps.Step.TheVariants as step

-- an entry for a bit stands for that bit alone
pub bit_met : {s : Table} {x : ℕ} {e : Entry} {on : Watch} {m σ : ℕ} → Waits s x e on m σ → is_bit e.watch ≡ true
    → met s.words e.watch ≡ true
bit_met {s} {x} {e} {on} {m} {σ} z bi = subst (λ (c : Watch). met s.words c ≡ true)
    (same_bit_is on e.watch (same_bit on e.watch z.watches bi) z.watches) z.is_set

-- a cover by another task than the walker is carried over
pub others_carried : (s : Table) (a : ℕ) (ev : Step) (b x : ℕ) (e : Entry) (on : Watch) (m σ : ℕ)
    → is_bit e.watch ≡ true → Carried s a ev x e on m σ → ((a ≢ b) → Ended s a ev e → ⊥) → Others s b x e σ
    → Others (next s a ev) b x e σ
others_carried s a ev b x e on m σ i c ended o =
    (o.0, o.1, go (put_case s.view a (after ev (s.view a)) o.0))
  where
    lost : a ≢ b → IsTrue (covers (after ev (s.view a)) x e σ)
        ⊎ (Spent (next s a ev) e m ⊎ Ended s a ev e)
        → IsTrue (covers (after ev (s.view a)) x e σ)
    lost ne (inl h) = h
    lost ne (inr (inl h)) = absurd (bit_not_counted e.watch i h.0)
    lost ne (inr (inr h)) = absurd (ended ne h)

    go : ((o.0 ≡ a) × (put s.view a (after ev (s.view a)) o.0 ≡ after ev (s.view a)))
        ⊎ ((o.0 ≢ a) × (put s.view a (after ev (s.view a)) o.0 ≡ s.view o.0))
        → IsTrue (covers (put s.view a (after ev (s.view a)) o.0) x e σ)
    go (inl q) = subst (λ (v : View). IsTrue (covers v x e σ)) (sym q.1)
        (lost (λ r. o.1 (q.0 ∙ r))
        (c.keep (subst (λ (d : ℕ). IsTrue (covers (s.view d) x e σ)) q.0 o.2)))
    go (inr q) = subst (λ (v : View). IsTrue (covers v x e σ)) (sym q.1) o.2

ended_head : (s : Table) (a : ℕ) (k : Facts s) (ev : Step) (e : Entry) → Ended s a ev e → (i : ℕ)
    × ((s.view a).hold.head ≡ Some i) × (head_of e.watch ≡ i)
ended_head s a k (step.Unlock h true) e t = (
  h,
  t.1,
  same_head e.watch t.0.watch t.5
      ∙ (k.views a).hold.aimed h t.0 t.1 t.2,
)
ended_head s a k (step.Unlock h false) e t = absurd t
ended_head s a k _ e t = absurd t

-- another task's unlock is of another head
pub not_ended : (s : Table) (a : ℕ) (ev : Step) (b h : ℕ) (w : Walk) (e : Entry) → Facts s
    → (s.view b).hold.head ≡ Some h → (s.view b).walk ≡ Some w → same e.watch w.watch ≡ true → a ≢ b
    → Ended s a ev e → ⊥
not_ended s a ev b h w e k al is sa ne t =
    let f : (i : ℕ) × ((s.view a).hold.head ≡ Some i) × (head_of e.watch ≡ i) = ended_head s a k ev e t in
    let aim : head_of w.watch ≡ h = (k.views b).hold.aimed h w al is in
    apart s a b f.0 h k (λ q. ne (sym q)) f.1 al (sym aim ∙ (sym (same_head e.watch w.watch sa) ∙ f.2))

-- a task that comes to cover the entry by the step holds no head, so it is another than one that does
now_covered : (s : Table) (a : ℕ) (ev : Step) (x : ℕ) (e : Entry) (σ b h : ℕ) → is_bit e.watch ≡ true
    → (s.view b).hold.head ≡ Some h → IsTrue (covers (after ev (s.view a)) x e σ) × Free s a ev e
    → Others (next s a ev) b x e σ
now_covered s a ev x e σ b h bite ho f = (
  a,
  (λ ab. absurd (let hn : (s.view a).hold.head ≡ None = f.1 bite
      in let hs : (s.view a).hold.head ≡ Some h = subst (λ (i : ℕ). (s.view i).hold.head ≡ Some h) (sym ab) ho in cc)),
  own_view s a (after ev (s.view a)) (λ v. IsTrue (covers v x e σ)) f.0,
)

-- the walker's own hold after the step is the one from before
abbrev pub HoldFrom : View → Step → Type 0
HoldFrom v ev = (h : ℕ) (w : Walk) → (after ev v).hold.head ≡ Some h → (after ev v).walk ≡ Some w
    → ((after ev v).hold.picked ≡ true) ⊎ ((u : ℕ) × ((after ev v).hold.roused u ≡ true))
    → (g : Walk) × (v.hold.head ≡ Some h) × (v.walk ≡ Some g) × (g.watch ≡ w.watch)

pub selected_from : (s : Table) (a : ℕ) (ev : Step) → Kept s → Facts (next s a ev) → Moves s a ev
    → TriedMoves s a ev → HoldFrom (s.view a) ev
    → ((h : ℕ) (g : Walk) (x : ℕ) (e : Entry) (on : Watch) (m σ : ℕ) → (s.view a).hold.head ≡ Some h
    → (s.view a).walk ≡ Some g → (after ev (s.view a)).hold.picked ≡ true → Waits (next s a ev) x e on m σ
    → same e.watch g.watch ≡ true → is_bit g.watch ≡ true
    → ((s.view a).hold.picked ≡ true) ⊎ (Others (next s a ev) a x e σ ⊎ Tried (next s a ev) e.watch))
    → Selected (next s a ev)
selected_from s a ev k k2 moves tried holds pick b h w x e on m σ hold walk bitw picked z sa =
    go (put_case s.view a (after ev (s.view a)) b)
  where
    bite : is_bit e.watch ≡ true
    bite = same_bit e.watch w.watch sa bitw

    -- from the old fact about the walker b
    from_old : (c : ℕ) → c ≡ b → (g : Walk) → (s.view c).hold.head ≡ Some h → (s.view c).walk ≡ Some g
        → g.watch ≡ w.watch → (s.view c).hold.picked ≡ true → Outcome s a ev x e on m σ
        → Others (next s a ev) b x e σ ⊎ Tried (next s a ev) e.watch
    from_old c cb g ho wa gw pi (inl ca) =
        elim (subst (λ (i : ℕ). Others s i x e σ ⊎ Tried s e.watch) cb
        (k.bits.selected c h g x e on m σ ho wa (subst (λ (i : Watch). is_bit i ≡ true) (sym gw) bitw) pi ca.old
        (subst (λ (i : Watch). same e.watch i ≡ true) (sym gw) sa))) [
          | inl o ↦ inl
              (others_carried s a ev b x e on m σ bite ca
              (not_ended s a ev b h g e k.facts (subst (λ (i : ℕ). (s.view i).hold.head ≡ Some h) cb ho)
              (subst (λ (i : ℕ). (s.view i).walk ≡ Some g) cb wa) (subst (λ (i : Watch). same e.watch i ≡ true)
              (sym gw) sa)) o)
          | inr t ↦ inr (tried e.watch (bit_met z bite) t)
        ]
    from_old c cb g ho wa gw pi (inr (inl f)) = inl (now_covered s a ev x e σ b h bite
        (subst (λ (i : ℕ). (s.view i).hold.head ≡ Some h) cb ho) f)
    from_old c cb g ho wa gw pi (inr (inr f)) =
        absurd (let off : is_bit e.watch ≡ false = f.0 in let is : is_bit e.watch ≡ true = bite in cc)

    go : ((b ≡ a) × (put s.view a (after ev (s.view a)) b ≡ after ev (s.view a)))
        ⊎ ((b ≢ a) × (put s.view a (after ev (s.view a)) b ≡ s.view b)) → Others (next s a ev) b x e σ
        ⊎ Tried (next s a ev) e.watch
    go (inr q) = from_old b refl w (subst (λ (v : View). v.hold.head ≡ Some h) q.1 hold)
        (subst (λ (v : View). v.walk ≡ Some w) q.1 walk) refl
        (subst (λ (v : View). v.hold.picked ≡ true) q.1 picked) (moves x e on m σ z)
    go (inl q) =
        let pi : (after ev (s.view a)).hold.picked ≡ true =
        subst (λ (v : View). v.hold.picked ≡ true) q.1 picked in
        let f : (g : Walk) × ((s.view a).hold.head ≡ Some h) × ((s.view a).walk ≡ Some g)
        × (g.watch ≡ w.watch) = holds h w (subst (λ (v : View). v.hold.head ≡ Some h) q.1 hold)
        (subst (λ (v : View). v.walk ≡ Some w) q.1 walk) (inl pi) in
        elim (pick h f.0 x e on m σ f.1 f.2 pi z (subst (λ (i : Watch). same e.watch i ≡ true) (sym f.3) sa)
        (subst (λ (i : Watch). is_bit i ≡ true) (sym f.3) bitw)) [
          | inl old ↦ from_old a (sym q.0) f.0 f.1 f.2 f.3 old (moves x e on m σ z)
          | inr fresh ↦ subst (λ (i : ℕ). Others (next s a ev) i x e σ ⊎ Tried (next s a ev) e.watch)
              (sym q.0) fresh
        ]

pub roused_from : (s : Table) (a : ℕ) (ev : Step) → Kept s → Facts (next s a ev) → Moves s a ev
    → HoldFrom (s.view a) ev
    → ((u : ℕ) (c : Watch) → is_bit c ≡ true → met (next s a ev).words c ≡ true
    → (after ev (s.view a)).hold.roused u ≡ true → ((s.view a).hold.roused u ≡ true)
    ⊎ (((next s a ev).view u).bits.got c ≡ false))
    → ((c : Watch) → is_bit c ≡ true → met (next s a ev).words c ≡ true → (s.view a).bits.got c ≡ false
    → (after ev (s.view a)).bits.got c ≡ false)
    → Roused (next s a ev)
roused_from s a ev k k2 moves holds rouse gots b u h w x e on m σ hold walk bitw roused z sa =
    go (put_case s.view a (after ev (s.view a)) b)
  where
    bite : is_bit e.watch ≡ true
    bite = same_bit e.watch w.watch sa bitw

    got_on : (s.view u).bits.got e.watch ≡ false → ((next s a ev).view u).bits.got e.watch ≡ false
    got_on g = put_at (λ (v : View). v.bits.got e.watch ≡ false) s.view a (after ev (s.view a)) u
        (λ q. gots e.watch bite (bit_met z bite) (subst (λ (i : ℕ). (s.view i).bits.got e.watch ≡ false) q g))
        (λ _. g)

    from_old : (c : ℕ) → c ≡ b → (g : Walk) → (s.view c).hold.head ≡ Some h → (s.view c).walk ≡ Some g
        → g.watch ≡ w.watch → (s.view c).hold.roused u ≡ true → Outcome s a ev x e on m σ
        → (((next s a ev).view u).bits.got e.watch ≡ false) ⊎ Others (next s a ev) b x e σ
    from_old c cb g ho wa gw ro (inl ca) = elim (subst (λ (i : ℕ). ((s.view u).bits.got e.watch ≡ false)
        ⊎ Others s i x e σ) cb
        (k.bits.roused c u h g x e on m σ ho wa (subst (λ (i : Watch). is_bit i ≡ true) (sym gw) bitw) ro ca.old
        (subst (λ (i : Watch). same e.watch i ≡ true) (sym gw) sa))) [
          | inl o ↦ inl (got_on o)
          | inr o ↦ inr
              (others_carried s a ev b x e on m σ bite ca
              (not_ended s a ev b h g e k.facts (subst (λ (i : ℕ). (s.view i).hold.head ≡ Some h) cb ho)
              (subst (λ (i : ℕ). (s.view i).walk ≡ Some g) cb wa) (subst (λ (i : Watch). same e.watch i ≡ true)
              (sym gw) sa)) o)
        ]
    from_old c cb g ho wa gw ro (inr (inl f)) = inr (now_covered s a ev x e σ b h bite
        (subst (λ (i : ℕ). (s.view i).hold.head ≡ Some h) cb ho) f)
    from_old c cb g ho wa gw ro (inr (inr f)) =
        absurd (let off : is_bit e.watch ≡ false = f.0 in let is : is_bit e.watch ≡ true = bite in cc)

    go : ((b ≡ a) × (put s.view a (after ev (s.view a)) b ≡ after ev (s.view a)))
        ⊎ ((b ≢ a) × (put s.view a (after ev (s.view a)) b ≡ s.view b))
        → (((next s a ev).view u).bits.got e.watch ≡ false) ⊎ Others (next s a ev) b x e σ
    go (inr q) = from_old b refl w (subst (λ (v : View). v.hold.head ≡ Some h) q.1 hold)
        (subst (λ (v : View). v.walk ≡ Some w) q.1 walk) refl
        (subst (λ (v : View). v.hold.roused u ≡ true) q.1 roused) (moves x e on m σ z)
    go (inl q) =
        let ro : (after ev (s.view a)).hold.roused u ≡ true =
        subst (λ (v : View). v.hold.roused u ≡ true) q.1 roused in
        let f : (g : Walk) × ((s.view a).hold.head ≡ Some h) × ((s.view a).walk ≡ Some g)
        × (g.watch ≡ w.watch) = holds h w (subst (λ (v : View). v.hold.head ≡ Some h) q.1 hold)
        (subst (λ (v : View). v.walk ≡ Some w) q.1 walk) (inr (u, ro)) in
        elim (rouse u e.watch bite (bit_met z bite) ro) [
          | inl old ↦ from_old a (sym q.0) f.0 f.1 f.2 f.3 old (moves x e on m σ z)
          | inr fresh ↦ inl fresh
        ]

-- the law itself
pub no_lost_from : (s : Table) (a : ℕ) (ev : Step) → Kept s → Facts (next s a ev) → Moves s a ev
    → TriedMoves s a ev → NoLostWake (next s a ev)
no_lost_from s a ev k k2 moves tried x e on m σ z = go (moves x e on m σ z)
  where
    covered : Carried s a ev x e on m σ → (d : ℕ) → IsTrue (covers (s.view d) x e σ)
        → Covered (next s a ev) x e σ ⊎ Excused (next s a ev) e m
    covered ca d h = by (put_case s.view a (after ev (s.view a)) d)
      where
        at : (d : ℕ) → IsTrue (covers ((next s a ev).view d) x e σ)
            → Covered (next s a ev) x e σ
        at d h = (d, h)

        ended : (w : Walk) (i : ℕ) → is_bit e.watch ≡ true → (s.view a).hold.head ≡ Some i
            → (s.view a).walk ≡ Some w → is_bit w.watch ≡ true → (s.view a).hold.picked ≡ true
            → same e.watch w.watch ≡ true → Covered (next s a ev) x e σ ⊎ Excused (next s a ev) e m
        ended w i bi ho wa bw pi sa = elim (k.bits.selected a i w x e on m σ ho wa bw pi ca.old sa) [
          | inl o ↦ inl
              (at o.0 (put_at (λ (v : View). IsTrue (covers v x e σ)) s.view a
              (after ev (s.view a)) o.0 (λ q. absurd (o.1 q)) (λ _. o.2)))
          | inr t ↦ inr (inr (tried e.watch (bit_met z bi) t))
        ]

        end_of : (ev2 : Step) → Ended s a ev2 e → Covered (next s a ev) x e σ ⊎ Excused (next s a ev) e m
        end_of (step.Unlock h true) t = ended t.0 h (same_bit e.watch t.0.watch t.5 t.3) t.1 t.2 t.3 t.4 t.5
        end_of (step.Unlock h false) t = absurd t
        end_of _ t = absurd t

        by : ((d ≡ a) × (put s.view a (after ev (s.view a)) d ≡ after ev (s.view a)))
            ⊎ ((d ≢ a) × (put s.view a (after ev (s.view a)) d ≡ s.view d)) → Covered (next s a ev) x e σ
            ⊎ Excused (next s a ev) e m
        by (inl q) =
            elim (ca.keep (subst (λ (i : ℕ). IsTrue (covers (s.view i) x e σ)) q.0 h)) [
              | inl c ↦ inl
                  (at d (subst (λ (v : View). IsTrue (covers v x e σ)) (sym q.1) c))
              | inr c ↦ elim c [ inl sp ↦ inr (inl sp) | inr en ↦ end_of ev en ]
            ]
        by (inr q) =
            inl (at d (subst (λ (v : View). IsTrue (covers v x e σ)) (sym q.1) h))

    go : Outcome s a ev x e on m σ → Covered (next s a ev) x e σ ⊎ Excused (next s a ev) e m
    go (inl ca) = elim (k.no_lost_wake x e on m σ ca.old) [
      | inl h ↦ covered ca h.0 h.1
      | inr h ↦ elim h [
        | inl sp ↦ inr (inl (ca.spent sp))
        | inr t ↦ inr (inr (tried e.watch (bit_met z t.1.0) t))
      ]
    ]
    go (inr (inl f)) =
        inl (a, own_view s a (after ev (s.view a)) (λ v. IsTrue (covers v x e σ)) f.0)
    go (inr (inr f)) = elim f.1 [ inl c ↦ inl c | inr sp ↦ inr (inl sp) ]
