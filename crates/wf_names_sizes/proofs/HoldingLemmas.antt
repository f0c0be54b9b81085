-- The structs that fields hold are the graph of the structs.
use Rattle.std.proofs.Common.{◌≡◌, ◌⊎◌, ℕ, zero, suc, ◌<◌, ◌≤◌, ◌-◌, ◌^◌, Bool, true, false, ◌||◌, List, [], ◌∷◌, ◌++◌, map, drop, length, Option, Some, None, slice_get, nat_eq, refl, sym, ap, ◌∙◌, inl, inr, arith}
use Rattle.std.specs.List.{list_any}
use Rattle.std.proofs.lemmas.List.{append-nil}
use Rattle.std.proofs.lemmas.List.Folds.{list_any-append}
use Rattle.std.proofs.lemmas.Option.{slice_get_within}
use Rattle.wf_names_rules.specs.Declarations.{Variable, Structure, Declared}
use Rattle.graphs.specs.Graphs.{holds, row_in, goes}
use Rattle.wf_names_rules.specs.Sizes.{struct_held, is_the, fields_at, holds_struct}
use Rattle.wf_names_rules.specs.StructRows.{AreStructRows}
use Rattle.graphs.proofs.NumberLemmas.{same_number}
use Rattle.wf_names_scopes.proofs.UseLemmas.{past_end}
use Rattle.wf_names_sizes.specs.declared.parts.FieldPart.{FieldPart}
use Rattle.wf_names_sizes.specs.declared.parts.Part.{Part}
use Rattle.wf_names_sizes.specs.declared.parts.Part.TheVariants as parts
use Rattle.wf_names_sizes.specs.Orders.{is_struct, has_struct}
use Rattle.wf_names_sizes.specs.StructSizes.{row_of, struct_in, structs_in}
use Rattle.wf_names_sizes.proofs.SettleLemmas.{length-map, has-held}
use Rattle.wf_names_sizes.proofs.TakeLemmas.{held-there}

or_false : (t : Bool) → (t || false) ≡ t
or_false true = refl
or_false false = refl

either : (x y : Bool) → (x || y) ≡ true → (x ≡ true) ⊎ (y ≡ true)
either true y h = inl refl
either false y h = inr h

-- The structs in a row.
holds-structs : (b : ℕ) (fields : List FieldPart) → holds (structs_in fields) b ≡ has_struct fields b
holds-structs b [] = refl
holds-structs b (f ∷ fs) =
    list_any-append (nat_eq b) (struct_in f.part) (structs_in fs) ∙ ap (λ t. t || holds (structs_in fs) b) (one f.part) ∙ ap (λ t. is_struct b f.part || t) (holds-structs b fs)
  where
    one : (p : Part) → holds (struct_in p) b ≡ is_struct b p
    one (parts.Plain n) = refl
    one (parts.Struct s) = or_false (nat_eq b s)

pub row-goes : (d : Declared) (b : ℕ) (ss : List Structure) (a : ℕ) → holds (row_in (slice_get (map structs_in (map (row_of d) ss)) a)) b ≡ list_any (λ v. is_the b (struct_held d v.of)) (fields_at (slice_get ss a))
row-goes d b [] a = refl
row-goes d b (s ∷ ss) zero = holds-structs b (row_of d s) ∙ has-held d b s.fields
row-goes d b (s ∷ ss) (suc a) = row-goes d b ss a

-- A struct that fields hold is there.
pub held-below : (d : Declared) (b : ℕ) (vs : List Variable) → list_any (λ v. is_the b (struct_held d v.of)) vs ≡ true → b < length d.structs
held-below d b [] h = absurd (cc h)
held-below d b (v ∷ vs) h = elim (either (is_the b (struct_held d v.of)) (list_any (λ w. is_the b (struct_held d w.of)) vs) h) [
  | inl p ↦ by_held (struct_held d v.of) refl p
  | inr q ↦ held-below d b vs q
]
  where
    by_held : (o : Option ℕ) → struct_held d v.of ≡ o → is_the b o ≡ true → b < length d.structs
    by_held None e p = absurd (cc p)
    by_held (Some s) e p =
        let there = held-there d v.of s e in
        let same : b ≡ s = same_number b s p in
        let within : s < length d.structs = slice_get_within d.structs s there.0 there.1 in
        omega (arith, same, within)

lists-long : (rows : List (List FieldPart)) → length (map structs_in rows) ≡ length rows
lists-long [] = refl
lists-long (r ∷ rs) = ap suc (lists-long rs)

pub structs-listed : (d : Declared) → length (map structs_in (map (row_of d) d.structs)) ≡ length d.structs
structs-listed d = lists-long (map (row_of d) d.structs) ∙ length-map d d.structs

-- After the last struct.
pub rows-end : (structs : List (List FieldPart)) (rows : List (List ℕ)) (i : ℕ) → length structs ≤ i → rows ++ map structs_in (drop i structs) ≡ map structs_in structs → rows ≡ map structs_in structs
rows-end structs rows i past h = sym (ap (λ xs. rows ++ map structs_in xs) (past_end structs i past) ∙ append-nil rows) ∙ h

pub rows-graph : (d : Declared) (structs : List (List FieldPart)) (rows : List (List ℕ)) → structs ≡ map (row_of d) d.structs → rows ≡ map structs_in structs
    → length d.structs < 2 ^ 32 - 1 → AreStructRows d rows
rows-graph d structs rows told made few = record { len = len; same = same; within = λ a b h. omega (arith, len, below a b h); few = omega (arith, len, few) }
  where
    whole : rows ≡ map structs_in (map (row_of d) d.structs)
    whole = made ∙ ap (map structs_in) told

    len : length rows ≡ length d.structs
    len = ap length whole ∙ structs-listed d

    same : (a b : ℕ) → goes rows a b ≡ holds_struct d a b
    same a b = ap (λ rs. goes rs a b) whole ∙ row-goes d b d.structs a

    below : (a b : ℕ) → goes rows a b ≡ true → b < length d.structs
    below a b h = held-below d b (fields_at (slice_get d.structs a)) (sym (same a b) ∙ h)
