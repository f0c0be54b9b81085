-- What it means that a package breaks no rule: no judgement finds fault with a part.
use Rattle.std.proofs.Common.{◌≡◌, Bool, true, false, not, ◌||◌, List, [], ◌∷◌, ◌++◌, Option, Some, None, refl, subst}
use Rattle.std.specs.Prelude.{is_some}
use Rattle.std.specs.Bool.{⊤}
use Rattle.wf_text.specs.declared.place.Place.{Place}
use Rattle.wf_text.specs.declared.rules.Refusal.{Refusal}
use Rattle.wf_text.specs.declared.rules.Rule.{Rule}
use Rattle.wf_text.specs.Precedence.{Decides, refused}
use Rattle.wf_named.specs.NamedTree.{NamedPackageTree}
use Rattle.wf_types_rules.specs.declared.settings.Setting.{Setting}
use Rattle.wf_types_rules.specs.Operands.{first_of}
use Rattle.wf_types_rules.specs.Parts.{Part, IsPart}
use Rattle.wf_types_rules.specs.Judgements.{at_if, fails, both_fail}
use Rattle.wf_types_rules.specs.TypeRules.{IsRule, Breaks}
use Rattle.wf_types_rules.specs.FirstBreak.{deciding}
use Rattle.wf_types_rules.proofs.FirstBreakLaws.{deciding-decides}

-- No judgement of the table finds fault with the part.
abbrev pub Fine : NamedPackageTree → Setting → Part → Type 0
Fine p s x = (rule : Rule) (judge : Setting → Part → Option Place) → IsRule rule judge → judge s x ≡ None

pub part-fine : (p : NamedPackageTree) → deciding p ≡ None → (s : Setting) (x : Part) → IsPart p s x → Fine p s x
part-fine p none s x is rule judge listed = by_place (judge s x) refl
  where
    by_place : (o : Option Place) → judge s x ≡ o → o ≡ None
    by_place None e = refl
    by_place (Some at) e =
        let D : Option Refusal → Type 0 = Decides (Breaks p) in
        absurd (subst D none (deciding-decides p) (refused rule at) (record { judge = judge; is_rule = listed; is_wrong = record { around = s; part = x; stands = is; wrong = e } }))

abbrev pub AllFine : NamedPackageTree → Setting → List Part → Type 0
AllFine p s [] = ⊤
AllFine p s (x ∷ xs) = Fine p s x × AllFine p s xs

pub fine-split : (p : NamedPackageTree) (s : Setting) (xs ys : List Part) → AllFine p s (xs ++ ys) → AllFine p s xs × AllFine p s ys
fine-split p s [] ys h = (tt, h)
fine-split p s (x ∷ xs) ys h = let rest = fine-split p s xs ys h.1 in ((h.0, rest.0), rest.1)

-- What a judgement that finds no fault says.
pub at-none : (test : Bool) (at : Place) → at_if test at ≡ None → test ≡ false
at-none false at h = refl
at-none true at h = absurd (cc h)

pub either-false : (a b : Bool) → (a || b) ≡ false → (a ≡ false) × (b ≡ false)
either-false false b h = (refl, h)
either-false true b h = absurd (cc h)

pub not-not : (b : Bool) → not b ≡ false → b ≡ true
not-not true h = refl
not-not false h = absurd (cc h)

pub first-none : (a b : Option Place) → first_of a b ≡ None → (a ≡ None) × (b ≡ None)
first-none None b h = (refl, h)
first-none (Some x) b h = absurd (cc h)

pub holds : {X : Type 0} (test : X → Bool) (o : Option X) (x : X) → o ≡ Some x → fails test o ≡ false → test x ≡ true
holds {X} test o x e h = let P : Option X → Type 0 = λ y. fails test y ≡ false in not-not (test x) (subst P e h)

pub both-hold : {X Y : Type 0} (test : X → Y → Bool) (o : Option X) (q : Option Y) (x : X) (y : Y) → o ≡ Some x → q ≡ Some y → both_fail test o q ≡ false → test x y ≡ true
both-hold {X} {Y} test o q x y e f h =
    let P : Option X → Type 0 = λ z. both_fail test z q ≡ false in
    let Q : Option Y → Type 0 = λ z. both_fail test (Some x) z ≡ false in
    not-not (test x y) (subst Q f (subst P e h))

pub there-of : {X : Type 0} (o : Option X) → is_some o ≡ true → (x : X) × (o ≡ Some x)
there-of None h = absurd (cc h)
there-of (Some x) h = (x, refl)

pub some-is : {X : Type 0} (o : Option X) (x : X) → o ≡ Some x → is_some o ≡ true
some-is None x h = absurd (cc h)
some-is (Some y) x h = refl
