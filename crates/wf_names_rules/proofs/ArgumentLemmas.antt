-- The arguments that a call gives and its method wants.
use Rattle.std.proofs.Common.{◌≡◌, ◌⊎◌, ℕ, zero, suc, ◌+◌, Bool, true, false, not, ◌||◌, List, [], ◌∷◌, map, drop, Some, slice_get, nat_eq, bytes_eq, refl, sym, ap, ◌∙◌, subst, inl, inr, arith}
use Rattle.std.specs.List.{list_any}
use Rattle.indexmap.specs.IndexSet.{insert_key, insert_all}
use Rattle.wf_base.specs.declared.base_methods.ArgTy.{ArgTy}
use Rattle.graphs.specs.Graphs.{holds}
use Rattle.wf_names_rules.specs.Meanings.{of_base, is_parameter}
use Rattle.graphs.proofs.NumberLemmas.{number_self, same_number}
use Rattle.wf_names_rules.proofs.InsertLemmas.{insert-keeps, insert-has, insert-only}

-- A base method's arguments after one that isn't called so.
pub has_step : (bytes : ℕ → List ℕ) (args : List (List ℕ × ArgTy)) (i text : ℕ) (x : List ℕ × ArgTy) → slice_get args i ≡ Some x → bytes_eq x.0 (bytes text) ≡ false
    → is_parameter bytes (of_base (map (λ arg. arg.0) (drop (i + 1) args))) text ≡ is_parameter bytes (of_base (map (λ arg. arg.0) (drop i args))) text
has_step bytes [] i text x e h = absurd (cc e)
has_step bytes (y ∷ ys) zero text x e h =
    let same : y ≡ x = cc e in
    let no : bytes_eq y.0 (bytes text) ≡ false = let P : List ℕ × ArgTy → Type 0 = λ z. bytes_eq z.0 (bytes text) ≡ false in subst P (sym same) h in
    sym (ap (λ t. t || list_any (λ name. bytes_eq name (bytes text)) (map (λ arg. arg.0) ys)) no)
has_step bytes (y ∷ ys) (suc i) text x e h =
    let next : suc (i + 1) ≡ suc i + 1 = omega arith in
    let P : ℕ → Type 0 = λ j. is_parameter bytes (of_base (map (λ arg. arg.0) (drop j (y ∷ ys)))) text ≡ is_parameter bytes (of_base (map (λ arg. arg.0) (drop i ys))) text in
    subst P next (has_step bytes ys i text x e h)

iff_same : (x y : Bool) → (x ≡ true → y ≡ true) → (y ≡ true → x ≡ true) → x ≡ y
iff_same true y to from = sym (to refl)
iff_same false true to from = from refl
iff_same false false to from = refl

in_left : (x y : Bool) → x ≡ true → (x || y) ≡ true
in_left true y h = refl
in_left false y h = absurd (cc h)

in_right : (x y : Bool) → y ≡ true → (x || y) ≡ true
in_right true y h = refl
in_right false y h = h

in_either : (x y : Bool) → (x || y) ≡ true → (x ≡ true) ⊎ (y ≡ true)
in_either true y h = inl refl
in_either false y h = inr h

insert_all-to : (ks xs : List ℕ) (b : ℕ) → (holds ks b ≡ true) ⊎ (holds xs b ≡ true) → holds (insert_all nat_eq ks xs) b ≡ true
insert_all-to ks [] b h = elim h [ inl p ↦ p | inr q ↦ absurd (cc q) ]
insert_all-to ks (x ∷ xs) b h = elim h [
  | inl p ↦ insert_all-to (insert_key nat_eq ks x) xs b (inl (insert-keeps ks x b p))
  | inr q ↦ elim (in_either (nat_eq b x) (holds xs b) q) [
    | inl e ↦ insert_all-to (insert_key nat_eq ks x) xs b (inl (let P : ℕ → Type 0 = λ c. holds (insert_key nat_eq ks x) c ≡ true in subst P (sym (same_number b x e)) (insert-has ks x)))
    | inr r ↦ insert_all-to (insert_key nat_eq ks x) xs b (inr r)
  ]
]

insert_all-from : (ks xs : List ℕ) (b : ℕ) → holds (insert_all nat_eq ks xs) b ≡ true → (holds ks b ≡ true) ⊎ (holds xs b ≡ true)
insert_all-from ks [] b h = inl h
insert_all-from ks (x ∷ xs) b h = elim (insert_all-from (insert_key nat_eq ks x) xs b h) [
  | inl p ↦ elim (insert-only ks x b p) [
    | inl k ↦ inl k
    | inr e ↦ inr (in_left (nat_eq b x) (holds xs b) (let P : ℕ → Type 0 = λ c. nat_eq b c ≡ true in subst P e (number_self b)))
  ]
  | inr q ↦ inr (in_right (nat_eq b x) (holds xs b) q)
]

-- A list without repeats has what the list has.
pub insert_all-holds : (xs : List ℕ) (b : ℕ) → holds (insert_all nat_eq [] xs) b ≡ holds xs b
insert_all-holds xs b = iff_same (holds (insert_all nat_eq [] xs) b) (holds xs b)
    (λ h. elim (insert_all-from [] xs b h) [ inl p ↦ absurd (cc p) | inr q ↦ q ]) (λ h. insert_all-to [] xs b (inr h))

pub any_same : {X : Type 0} (f g : X → Bool) → ((x : X) → f x ≡ g x) → (xs : List X) → list_any f xs ≡ list_any g xs
any_same f g h [] = refl
any_same f g h (x ∷ xs) = ap (λ t. t || list_any f xs) (h x) ∙ ap (λ t. g x || t) (any_same f g h xs)

pub outside_same : (keys given wanted : List ℕ) → keys ≡ insert_all nat_eq [] given → list_any (λ text. not (list_any (nat_eq text) keys)) wanted ≡ list_any (λ text. not (list_any (nat_eq text) given)) wanted
outside_same keys given wanted e =
    any_same (λ text. not (holds keys text)) (λ text. not (holds given text)) (λ text. ap not (ap (λ ks. holds ks text) e ∙ insert_all-holds given text)) wanted
