-- The largest struct breaks no rule of sizes, and one with a byte more does.
use Rattle.std.proofs.Common.{◌≡◌, ◌<◌, ℕ, zero, suc, true, List, [], ◌∷◌, ◌++◌, Some, slice_get, refl, sym, ◌∙◌, subst, arith}
use Rattle.wf_text.specs.declared.rules.Refusal.{Refusal}
use Rattle.wf_text.specs.declared.rules.Rule.TheVariants.{L7}
use Rattle.wf_ast.specs.ParsedTree.{no_field}
use Rattle.wf_named.specs.Examples.{at}
use Rattle.wf_names_rules.specs.Declarations.{Declared, Structure, Variable, declared}
use Rattle.wf_names_rules.specs.NameRules.{SizeBreaks, too_long_array, too_large_struct, IsSizedHere, field, arg, local, IsStructure}
use Rattle.wf_names_rules.specs.Sizes.{Take, nothing, plain, is_too_long}
use Rattle.wf_names_sizes.proofs.TakeLemmas.{take-one}
use Rattle.wf_typed_limit_laws.specs.Examples.{large_texts, large_decls, base, longest, one_byte}

abbrev d : Declared
d = declared large_texts (large_decls no_field)

abbrev a : Variable
a = record { name = record { text = record { 0 = 1 }; at = at 1 14 }; of = longest 1 18 }

abbrev b : Variable
b = record { name = record { text = record { 0 = 3 }; at = at 1 41 }; of = longest 1 45 }

abbrev c : Variable
c = record { name = record { text = record { 0 = 4 }; at = at 1 68 }; of = base 5 1 72 }

one : Take d (a ∷ []) 524288
one = plain a [] 0 refl nothing

two : Take d (a ∷ b ∷ []) 1048576
two = plain a (b ∷ []) 524288 refl (plain b [] 0 refl nothing)

-- The fields before one, and that one.
few : (front back : List Variable) (v : Variable) (m : ℕ) → a ∷ b ∷ [] ≡ front ++ v ∷ back → Take d (front ++ v ∷ []) m → 1048576 < m → ⊥
few [] back v m e t l =
    let same : v ≡ a = cc e in
    let P : Variable → Type 0 = λ x. Take d (x ∷ []) m in
    let count = take-one d (a ∷ []) m 524288 (subst P same t) one in
    absurd (omega (arith, l, count))
few (x ∷ []) back v m e t l =
    let first : x ≡ a = cc e in
    let same : v ≡ b = cc e in
    let P : Variable → Type 0 = λ y. Take d (y ∷ v ∷ []) m in
    let Q : Variable → Type 0 = λ y. Take d (a ∷ y ∷ []) m in
    let count = take-one d (a ∷ b ∷ []) m 1048576 (subst Q same (subst P first t)) two in
    absurd (omega (arith, l, count))
few (x ∷ y ∷ []) back v m e t l = absurd (cc e)
few (x ∷ y ∷ z ∷ front) back v m e t l = absurd (cc e)

its-fields : (s : Structure) → IsStructure d s → s.fields ≡ a ∷ b ∷ []
its-fields s (zero, e) = let same : record { name = record { text = record { 0 = 0 }; at = at 1 12 }; fields = a ∷ b ∷ [] } ≡ s = cc e in let P : Structure → Type 0 = λ x. x.fields ≡ a ∷ b ∷ [] in subst P same refl
its-fields s (suc i, e) = absurd (cc e)

short : (i : ℕ) (v : Variable) → slice_get (a ∷ b ∷ []) i ≡ Some v → is_too_long d [] v.of ≡ true → ⊥
short zero v e h = let same : v ≡ a = cc e in let P : Variable → Type 0 = λ x. is_too_long d [] x.of ≡ true in let no : is_too_long d [] a.of ≡ true = subst P same h in absurd (cc no)
short (suc zero) v e h = let same : v ≡ b = cc e in let P : Variable → Type 0 = λ x. is_too_long d [] x.of ≡ true in let no : is_too_long d [] b.of ≡ true = subst P same h in absurd (cc no)
short (suc (suc i)) v e h = absurd (cc e)

none-long : (locals : List Variable) (v : Variable) → IsSizedHere d locals v → is_too_long d locals v.of ≡ true → ⊥
none-long _ _ (field s i v is e) h =
    let P : List Variable → Type 0 = λ xs. slice_get xs i ≡ Some v in
    short i v (subst P (its-fields s is) e) h
none-long _ _ (arg m i v is e) h = let no = is.1 in absurd (cc no)
none-long _ _ (local m i v is e) h = let no = is.1 in absurd (cc no)

pub none-breaks : (refusal : Refusal) → SizeBreaks d refusal → ⊥
none-breaks _ (too_long_array locals v here long) = none-long locals v here long
none-breaks _ (too_large_struct s front back v n m is e before least since most) = few front back v m (sym (its-fields s is) ∙ e) since most

pub one-more : SizeBreaks (declared large_texts (large_decls one_byte)) (record { rule = L7; at = at 1 68 })
one-more =
    too_large_struct (record { name = record { text = record { 0 = 0 }; at = at 1 12 }; fields = a ∷ b ∷ c ∷ [] }) (a ∷ b ∷ []) [] c 1048576 1048577 (0, refl) refl
    (plain a (b ∷ []) 524288 refl (plain b [] 0 refl nothing)) (omega arith) (plain a (b ∷ c ∷ []) 524289 refl (plain b (c ∷ []) 1 refl (plain c [] 0 refl nothing))) (omega arith)
