-- The field that passes the limit of a struct's bytes is found, and nothing else is.
use Rattle.std.proofs.Common.{◌≡◌, ℕ, ◌+◌, ◌<◌, ◌≤◌, Bool, true, List, [], ◌∷◌, ◌++◌, map, drop, length, slice_index_or, Option, Some, None, refl, sym, ap, ◌∙◌, subst, inl, inr, arith}
use Rattle.std.specs.List.{flat_map}
use Rattle.std.proofs.lemmas.Bool.Decides.{nat_tests}
use Rattle.wf_text.specs.declared.rules.Refusal.{Refusal}
use Rattle.wf_text.specs.declared.rules.Rule.TheVariants.{L7}
use Rattle.wf_text.specs.Precedence.{soonest}
use Rattle.wf_text.proofs.PrecedenceLaws.{Among, here, there}
use Rattle.wf_names_rules.specs.Declarations.{Variable, Structure, Declared}
use Rattle.wf_names_rules.specs.Passes.{refused_if}
use Rattle.wf_names_rules.specs.Sizes.{Take, nothing}
use Rattle.wf_names_rules.specs.NameRules.{IsStructure}
use Rattle.wf_names_rules.proofs.WalkLemmas.{drop-one}
use Rattle.wf_names_sizes.specs.declared.parts.FieldPart.{FieldPart}
use Rattle.wf_names_sizes.specs.StructSizes.{capped, part_of, field_of, row_of, added, part_bytes, sum_after, passes, too_large_struct, struct_large, AreHolding, AreSizes, AreSettled, HasLargeField}
use Rattle.wf_names_sizes.proofs.ArrayLemmas.{soonest-append}
use Rattle.wf_names_sizes.proofs.LongLaws.{among-none, among-cases, refused-cause, flat-cause, among-flat}
use Rattle.wf_names_sizes.proofs.TakeLemmas.{take-append, sum-takes, sum-taken}

passes-cause : (a : ℕ) (b : Option ℕ) → passes (Some a) b ≡ true → (n : ℕ) × ((b ≡ Some n) × ((a ≤ 1048576) × (1048576 < n)))
passes-cause a None h = absurd (cc h)
passes-cause a (Some n) h = (n, (refl, (grind (arith, nat_tests, h), grind (arith, nat_tests, h))))

passes-so : (a n : ℕ) → a ≤ 1048576 → 1048576 < n → passes (Some a) (Some n) ≡ true
passes-so a n h k = grind (arith, nat_tests, h, k)

seam : (xs : List Variable) (y : Variable) (ys : List Variable) → xs ++ y ∷ ys ≡ (xs ++ y ∷ []) ++ ys
seam [] y ys = refl
seam (x ∷ xs) y ys = ap (λ zs. x ∷ zs) (seam xs y ys)

module _ (d : Declared) (flags : List Bool) (sizes : List (Option ℕ)) (holding : AreHolding d flags) (sound : AreSizes d sizes) where
  none-found : (vs : List Variable) (t : Refusal) → Among t (too_large_struct flags sizes None (map (field_of d) vs)) → ⊥
  none-found [] t a = among-none t a
  none-found (v ∷ vs) t a = elim (among-cases t None (too_large_struct flags sizes None (map (field_of d) vs)) a) [
    | inl e ↦ absurd (cc e)
    | inr b ↦ none-found vs t b
  ]

  -- The fields after some that take `n` bytes.
  large-cause : (s : Structure) → IsStructure d s → (front vs : List Variable) (n : ℕ) (t : Refusal) → s.fields ≡ front ++ vs → Take d front n
      → Among t (too_large_struct flags sizes (Some (capped n)) (map (field_of d) vs)) → HasLargeField d t
  large-cause s is front [] n t e takes a = absurd (among-none t a)
  large-cause s is front (v ∷ vs) n t e takes a =
      by_sum (λ k. large-cause s is (front ++ v ∷ []) vs k t (e ∙ seam front v vs)) (added (Some (capped n)) (part_bytes flags sizes (part_of d v))) refl
    where
      by_sum : ((k : ℕ) → Take d (front ++ v ∷ []) k → Among t (too_large_struct flags sizes (Some (capped k)) (map (field_of d) vs)) → HasLargeField d t) → (sum : Option ℕ) → added (Some (capped n)) (part_bytes flags sizes (part_of d v)) ≡ sum → HasLargeField d t
      by_sum others None f =
          let P : Option ℕ → Type 0 = λ sum. Among t (refused_if (passes (Some (capped n)) sum) L7 v.name.at ∷ too_large_struct flags sizes sum (map (field_of d) vs)) in
          absurd (elim (among-cases t None (too_large_struct flags sizes None (map (field_of d) vs)) (subst P f a)) [ inl q ↦ absurd (cc q) | inr b ↦ none-found vs t b ])
      by_sum others (Some m) f =
          let P : Option ℕ → Type 0 = λ sum. Among t (refused_if (passes (Some (capped n)) sum) L7 v.name.at ∷ too_large_struct flags sizes sum (map (field_of d) vs)) in
          let one = sum-taken d flags sizes holding sound (v ∷ []) n m f in
          let whole : Take d (front ++ v ∷ []) (n + one.0) = take-append d front (v ∷ []) n one.0 takes one.1.0 in
          elim (among-cases t (refused_if (passes (Some (capped n)) (Some m)) L7 v.name.at) (too_large_struct flags sizes (Some m) (map (field_of d) vs)) (subst P f a)) [
            | inl q ↦ (
                let cause = refused-cause (passes (Some (capped n)) (Some m)) v.name.at t q in
                let limits = passes-cause (capped n) (Some m) cause.0 in
                let same : m ≡ limits.0 = cc limits.1.0 in
                let made : HasLargeField d t = record {
                  structure = s;
                  front = front;
                  back = vs;
                  variable = v;
                  before = n;
                  since = n + one.0;
                  is = is;
                  fields = e;
                  takes_before = takes;
                  least = omega (arith, limits.1.1.0);
                  takes_since = whole;
                  most = omega (arith, limits.1.1.1, same, one.1.1);
                  refused = cause.1;
                } in
                made
                )
            | inr b ↦ (
                let Q : ℕ → Type 0 = λ k. Among t (too_large_struct flags sizes (Some k) (map (field_of d) vs)) in
                others (n + one.0) whole (subst Q one.1.1 b)
                )
          ]

  -- The find at a field after some.
  among-large : (front : List Variable) (v : Variable) (back : List Variable) (sum : Option ℕ) (t : Refusal)
      → refused_if (passes (sum_after flags sizes sum (map (field_of d) front)) (sum_after flags sizes sum (map (field_of d) (front ++ v ∷ [])))) L7 v.name.at ≡ Some t
      → Among t (too_large_struct flags sizes sum (map (field_of d) (front ++ v ∷ back)))
  among-large [] v back sum t h = here _ _ h
  among-large (x ∷ xs) v back sum t h = there _ _ (among-large xs v back (added sum (part_bytes flags sizes (part_of d x))) t h)

  pub large-sound : (t : Refusal) → Among t (flat_map (struct_large d flags sizes) d.structs) → HasLargeField d t
  large-sound t a =
      let s = flat-cause (struct_large d flags sizes) t d.structs a in
      large-cause s.1.0 (s.0, s.1.1.0) [] s.1.0.fields 0 t refl nothing s.1.1.1

  pub large-complete : AreSettled flags sizes (map (row_of d) d.structs) → (t : Refusal) → HasLargeField d t → Among t (flat_map (struct_large d flags sizes) d.structs)
  large-complete settled t h =
      let front : sum_after flags sizes (Some 0) (map (field_of d) h.front) ≡ Some (capped h.before) =
      sum-takes d flags sizes holding sound settled h.front h.before 0 h.takes_before ∙ ap (λ k. Some (capped k)) (let e : 0 + h.before ≡ h.before = omega arith in e) in
      let whole : sum_after flags sizes (Some 0) (map (field_of d) (h.front ++ h.variable ∷ [])) ≡ Some (capped h.since) =
      sum-takes d flags sizes holding sound settled (h.front ++ h.variable ∷ []) h.since 0 h.takes_since ∙ ap (λ k. Some (capped k)) (let e : 0 + h.since ≡ h.since = omega arith in e) in
      let passed : passes (Some (capped h.before)) (Some (capped h.since)) ≡ true = passes-so (capped h.before) (capped h.since) (omega (arith, h.least)) (omega (arith, h.most)) in
      let test : Option ℕ → Option ℕ → Option Refusal = λ a b. refused_if (passes a b) L7 h.variable.name.at in
      let find : test (sum_after flags sizes (Some 0) (map (field_of d) h.front)) (sum_after flags sizes (Some 0) (map (field_of d) (h.front ++ h.variable ∷ []))) ≡ Some t =
      ap (λ a. test a (sum_after flags sizes (Some 0) (map (field_of d) (h.front ++ h.variable ∷ [])))) front ∙ ap (test (Some (capped h.before))) whole
      ∙ ap (λ b. refused_if b L7 h.variable.name.at) passed ∙ ap (λ x. Some x) (sym h.refused) in
      let F : List Variable → Type 0 = λ vs. Among t (too_large_struct flags sizes (Some 0) (map (field_of d) vs)) in
      among-flat (struct_large d flags sizes) t d.structs h.is.0 h.structure h.is.1 (subst F (sym h.fields) (among-large h.front h.variable h.back (Some 0) t find))

-- The same of the rows of all structs.
pub larges-are : (d : Declared) (flags : List Bool) (sizes : List (Option ℕ)) (ss : List Structure)
    → flat_map (too_large_struct flags sizes (Some 0)) (map (row_of d) ss) ≡ flat_map (struct_large d flags sizes) ss
larges-are d flags sizes [] = refl
larges-are d flags sizes (s ∷ ss) = ap (λ xs. too_large_struct flags sizes (Some 0) (row_of d s) ++ xs) (larges-are d flags sizes ss)

-- One struct more.
pub larges-step : (flags : List Bool) (sizes : List (Option ℕ)) (structs : List (List FieldPart)) (i : ℕ) (x : List FieldPart) → x ≡ slice_index_or structs i x → i < length structs
    → (found next : Option Refusal) → next ≡ soonest found (too_large_struct flags sizes (Some 0) x)
    → soonest next (flat_map (too_large_struct flags sizes (Some 0)) (drop (i + 1) structs)) ≡ soonest found (flat_map (too_large_struct flags sizes (Some 0)) (drop i structs))
larges-step flags sizes structs i x is h found next e =
    let large : List FieldPart → List (Option Refusal) = too_large_struct flags sizes (Some 0) in
    let split : drop i structs ≡ x ∷ drop (i + 1) structs = drop-one structs i x h ∙ ap (λ y. y ∷ drop (i + 1) structs) (sym is) in
    ap (λ n. soonest n (flat_map large (drop (i + 1) structs))) e ∙ sym (soonest-append found (large x) (flat_map large (drop (i + 1) structs)))
    ∙ ap (λ xs. soonest found (flat_map large xs)) (sym split)
