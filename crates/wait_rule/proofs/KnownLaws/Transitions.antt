-- Transitions one after another, and the looks between them.
use Rattle.std.proofs.Common.{◌∙◌, ap, sym, refl, subst, append-nil, append_assoc}
use Rattle.std.specs.Prelude.{◌≡◌, List, [], ◌∷◌, ◌++◌}
use Rattle.wait_model.specs.{declared.points.Point.Point, declared.points.Next.Next}
use Rattle.wait_model.specs.declared.points.Next.TheVariants as next
use Rattle.wait_rule.specs.{declared.journal.Item.Item, Known.Known, Says.grown, Queues.IsTold}
use Rattle.wait_rule.specs.Items.{AddsNone, Book, steps_of, book_from, book_of, first_book}
use Rattle.wait_rule.specs.Transitions.{AreLooks, OnlyLooks, Program, Transition, IsTransition, Goes, after_transition}
use Rattle.wait_rule.specs.declared.journal.Item.TheVariants as item
use Rattle.wait_rule.proofs.{TableSteps.ItemLists.book_append, KnownLaws.SleepLooks.listed}

pub grown_none : (k : Known) → k ≡ grown k [] k.book
grown_none k = ap (λ (l : List Item). listed k l k.book) (sym (append-nil k.view.items))

pub grown_more : (old : Known) (xs ys : List Item) (b c : Book) → grown (grown old xs b) ys c ≡ grown old (xs ++ ys) c
grown_more old xs ys b c = ap (λ (l : List Item). listed old l c) (append_assoc old.view.items xs ys)

-- looks, and more of them
pub looks_append : (xs ys : List Item) → AreLooks xs → AreLooks ys → AreLooks (xs ++ ys)
looks_append [] ys a b = b
looks_append (x ∷ xs) ys a b = (a.0, looks_append xs ys a.1 b)

-- who made no step, and added to no tally, looked
pub looks_of : (xs : List Item) → steps_of xs ≡ [] → AddsNone xs → AreLooks xs
looks_of [] none adds = tt
looks_of (item.Made e ∷ xs) none adds = absurd (cc)
looks_of (item.Tally p n w ∷ xs) none adds = absurd adds.0
looks_of (item.Piped k a w ∷ xs) none adds = absurd adds.0
looks_of (x ∷ xs) none adds = (tt, looks_of xs none adds.1)

-- what a task knows of its word is what its list tells
pub book_told : (old new : Known) (xs : List Item) → IsTold old → IsTold new → new.view.items ≡ old.view.items ++ xs
    → new.book ≡ book_from old.book xs
book_told old new xs was is more = is.book ∙ (ap book_of more
    ∙ (book_append first_book old.view.items xs ∙ ap (λ (b : Book). book_from b xs) (sym was.book)))

pub only_none : (k : Known) → OnlyLooks k k
only_none k = record { items = []; looks = tt; is = grown_none k }

pub only_on : (old mid new : Known) → OnlyLooks old mid → OnlyLooks mid new → OnlyLooks old new
only_on old mid new one two = record {
  items = one.items ++ two.items;
  looks = looks_append one.items two.items one.looks two.looks;
  is = two.is ∙ ((λ i. grown (one.is i) two.items (book_from (one.is i).book two.items))
      ∙ (grown_more old one.items two.items (book_from old.book one.items)
      (book_from (book_from old.book one.items) two.items)
      ∙ ap (grown old (one.items ++ two.items)) (sym (book_append old.book one.items two.items))));
}

-- looks that tell nothing of the own word
pub only_looked : (old new : Known) (xs : List Item) → book_from old.book xs ≡ old.book → AreLooks xs
    → new ≡ grown old xs old.book → OnlyLooks old new
only_looked old new xs same looks is = record {
  items = xs;
  looks = looks;
  is = is ∙ ap (grown old xs) (sym same);
}

-- looks before a transition belong to it
pub looks_first : (f : Program) (old mid new : Known) (n m : Next) (ts : List Transition) → OnlyLooks old mid
    → Goes f mid n ts new m → Goes f old n ts new m
looks_first f old mid new n m [] l g = (only_on old mid new l g.0, g.1)
looks_first f old mid new (next.Ends a) m (t ∷ ts) l g = absurd g
looks_first f old mid new (next.Go p) m (t ∷ ts) l g = (
  record { looks = only_on old mid t.knew l g.0.looks; is = g.0.is; finds = g.0.finds },
  g.1,
)

-- and looks after the last
pub looks_last : (f : Program) (old mid new : Known) (n m : Next) (ts : List Transition) → Goes f old n ts mid m
    → OnlyLooks mid new → Goes f old n ts new m
looks_last f old mid new n m [] g l = (only_on old mid new g.0 l, g.1)
looks_last f old mid new (next.Ends a) m (t ∷ ts) g l = absurd g
looks_last f old mid new (next.Go p) m (t ∷ ts) g l = (
  g.0,
  looks_last f (after_transition t) mid new (f.plan p t.seen).next m ts g.1 l,
)

pub goes_on : (f : Program) (old mid new : Known) (n m k : Next) (ts us : List Transition) → Goes f old n ts mid m
    → Goes f mid m us new k → Goes f old n (ts ++ us) new k
goes_on f old mid new n m k [] us one two = looks_first f old mid new n k us one.0
    (subst (λ (q : Next). Goes f mid q us new k) one.1 two)
goes_on f old mid new (next.Ends a) m k (t ∷ ts) us one two = absurd one
goes_on f old mid new (next.Go p) m k (t ∷ ts) us one two = (
  one.0,
  goes_on f (after_transition t) mid new (f.plan p t.seen).next m k ts us one.1 two,
)

-- no transition, and one
pub goes_none : (f : Program) (old new : Known) (n : Next) → OnlyLooks old new → Goes f old n [] new n
goes_none f old new n looks = (looks, refl)

pub one_transition : (f : Program) (p : Point) (old : Known) (t : Transition) → IsTransition f p old t
    → Goes f old (next.Go p) (t ∷ []) (after_transition t) (f.plan p t.seen).next
one_transition f p old t transition = (transition, (only_none (after_transition t), refl))
