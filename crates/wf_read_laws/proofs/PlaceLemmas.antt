-- Places that may be told or not: those that are told lie in a region.
use Rattle.std.proofs.Common.{◌≡◌, Bool, true, false, cond, if◌then◌else◌, List, [], ◌∷◌, Option, None, Some, IfSome, option_and_then, subst}
use Rattle.std.specs.List.{AllByRecursion, find}
use Rattle.wf_text.specs.declared.place.Place.{Place}
use Rattle.wf_types_rules.specs.Operands.{first_of}
use Rattle.wf_types_rules.specs.Judgements.{at_if, if_both}

-- What a list has under a test is of the list.
pub find-in : {X : Type 0} (P : X → Type 0) (test : X → Bool) (xs : List X) → AllByRecursion P xs → IfSome (find test xs) P
find-in P test [] a = tt
find-in P test (x ∷ xs) a = by_case (test x) (find-in P test xs a.1)
  where
    by_case : (b : Bool) → IfSome (find test xs) P → IfSome (cond b (Some x) (find test xs)) P
    by_case true h = a.0
    by_case false h = h

pub either-in : {X : Type 0} (P : X → Type 0) (b : Bool) (first second : Option X) → IfSome first P → IfSome second P → IfSome (if b then first else second) P
either-in P true first second h k = h
either-in P false first second h k = k

pub then-in : {X Y : Type 0} (P : X → Type 0) (Q : Y → Type 0) (f : X → Option Y) → ((x : X) → P x → IfSome (f x) Q) → (found : Option X) → IfSome found P → IfSome (option_and_then f found) Q
then-in P Q f h None k = tt
then-in P Q f h (Some x) k = h x k

module _ (In : Place → Type 0) where
  pub at-if : (test : Bool) (at : Place) → In at → IfSome (at_if test at) In
  at-if true at h = h
  at-if false at h = tt

  pub if-both : (known : Bool) (at : Option Place) → IfSome at In → IfSome (if_both known at) In
  if-both true at h = h
  if-both false at h = tt

  pub first-in : (a b : Option Place) → IfSome a In → IfSome b In → IfSome (first_of a b) In
  first-in None b h k = k
  first-in (Some at) b h k = h

  -- The place that is told.
  pub told-in : (found : Option Place) (at : Place) → found ≡ Some at → IfSome found In → In at
  told-in found at is h = subst (λ f. IfSome f In) is h
