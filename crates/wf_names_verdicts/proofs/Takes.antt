-- The fields of every struct take some number of bytes: a struct that doesn't hold itself holds those that reach fewer.
use Rattle.std.proofs.Common.{◌≡◌, ◌⊎◌, inl, inr, ℕ, zero, suc, ◌+◌, ◌<◌, Bool, true, false, ◌||◌, nat_eq, List, [], ◌∷◌, length, slice_get, Option, None, Some, refl, sym, ◌∙◌, ap, subst, arith}
use Rattle.std.specs.Bool.{⊤}
use Rattle.std.specs.List.{list_any}
use Rattle.std.proofs.lemmas.Bool.Decides.{nat_tests}
use Rattle.std.proofs.lemmas.Option.{slice_get_within}
use Rattle.graphs.specs.Graphs.{Path}
use Rattle.wf_names_rules.specs.Declarations.{Variable, Structure, Declared}
use Rattle.wf_names_rules.specs.Sizes.{plain_bytes, struct_held, is_the, fields_at, holds_struct, Take, nothing, plain, part, cycle}
use Rattle.wf_names_verdicts.proofs.Ways.{way-or-none, reached, fewer}

module _ (d : Declared) where
  -- A struct that holds one is there.
  pub holder-there : (a b : ℕ) → holds_struct d a b ≡ true → a < length d.structs
  holder-there a b h = by_struct (slice_get d.structs a) refl
    where
      by_struct : (o : Option Structure) → slice_get d.structs a ≡ o → a < length d.structs
      by_struct None e = let none : holds_struct d a b ≡ false = ap (λ s. list_any (λ v. is_the b (struct_held d v.of)) (fields_at s)) e in absurd (cc (h, none))
      by_struct (Some s) e = slice_get_within d.structs a s e

  pub holds-itself : (s : ℕ) → Path (holds_struct d) s s ⊎ (Path (holds_struct d) s s → ⊥)
  holds-itself s = way-or-none (holds_struct d) (length d.structs) holder-there s s

  abbrev Takes : List Variable → Type 0
  Takes vs = (n : ℕ) × Take d vs n

  -- Some of these fields is of that struct.
  abbrev has-held : List Variable → ℕ → Bool
  has-held vs t = list_any (λ v. is_the t (struct_held d v.of)) vs

  is-it : (t : ℕ) (o : Option ℕ) → o ≡ Some t → is_the t o ≡ true
  is-it t o e = ap (is_the t) e ∙ (let same : nat_eq t t ≡ true = grind (arith, nat_tests) in same)

  first-held : (v : Variable) (vs : List Variable) (t : ℕ) → struct_held d v.of ≡ Some t → has-held (v ∷ vs) t ≡ true
  first-held v vs t e = ap (λ b. b || has-held vs t) (is-it t (struct_held d v.of) e)

  later-held : (v : Variable) (vs : List Variable) (t : ℕ) → has-held vs t ≡ true → has-held (v ∷ vs) t ≡ true
  later-held v vs t h = by_first (is_the t (struct_held d v.of))
    where
      by_first : (b : Bool) → (b || has-held vs t) ≡ true
      by_first true = refl
      by_first false = h

  -- Fields, where each struct that they hold and that doesn't hold itself takes some bytes.
  fields-take : (Ok : ℕ → Type 0) → ((t : ℕ) → Ok t → (Path (holds_struct d) t t → ⊥) → Takes (fields_at (slice_get d.structs t)))
      → (vs : List Variable) → ((t : ℕ) → has-held vs t ≡ true → (Path (holds_struct d) t t → ⊥) → Ok t) → Takes vs
  fields-take Ok inner [] ok = (0, nothing)
  fields-take Ok inner (v ∷ vs) ok = by_held (fields-take Ok inner vs (λ t h off. ok t (later-held v vs t h) off)) (struct_held d v.of) refl
    where
      by_cycle : Takes vs → (s : ℕ) → struct_held d v.of ≡ Some s → Path (holds_struct d) s s ⊎ (Path (holds_struct d) s s → ⊥) → Takes (v ∷ vs)
      by_cycle rest s e (inl p) = (8 + rest.0, cycle v vs s rest.0 e p rest.1)
      by_cycle rest s e (inr off) = let own = inner s (ok s (first-held v vs s e) off) off in (8 + own.0 + rest.0, part v vs s own.0 rest.0 e off own.1 rest.1)

      by_held : Takes vs → (o : Option ℕ) → struct_held d v.of ≡ o → Takes (v ∷ vs)
      by_held rest None e = (plain_bytes d v.of + rest.0, plain v vs rest.0 e rest.1)
      by_held rest (Some s) e = by_cycle rest s e (holds-itself s)

  abbrev reach : ℕ → ℕ
  reach s = reached (holds_struct d) (length d.structs) holder-there s

  struct-takes : (fuel s : ℕ) → reach s < fuel → (Path (holds_struct d) s s → ⊥) → Takes (fields_at (slice_get d.structs s))
  struct-takes zero s small off = absurd (omega (arith, small))
  struct-takes (suc fuel) s small off = fields-take (λ t. (reach t < fuel) ⊎ (slice_get d.structs t ≡ None)) (λ t ok off'. by_there t (λ l. struct-takes fuel t l off') ok) (fields_at (slice_get d.structs s)) below
    where
      by_there : (t : ℕ) → (reach t < fuel → Takes (fields_at (slice_get d.structs t))) → (reach t < fuel) ⊎ (slice_get d.structs t ≡ None) → Takes (fields_at (slice_get d.structs t))
      by_there t others (inl l) = others l
      by_there t others (inr e) = let P : Option Structure → Type 0 = λ o. Takes (fields_at o) in subst P (sym e) (0, nothing)

      below : (t : ℕ) → has-held (fields_at (slice_get d.structs s)) t ≡ true → (Path (holds_struct d) t t → ⊥) → (reach t < fuel) ⊎ (slice_get d.structs t ≡ None)
      below t h off' = by_struct (slice_get d.structs t) refl
        where
          by_struct : (o : Option Structure) → slice_get d.structs t ≡ o → (reach t < fuel) ⊎ (slice_get d.structs t ≡ None)
          by_struct None e = inr e
          by_struct (Some x) e =
              let less = fewer (holds_struct d) (length d.structs) holder-there s t h off' (slice_get_within d.structs t x e) in
              inl (omega (arith, less, small))

  -- All fields.
  pub takes : (vs : List Variable) → Takes vs
  takes vs = fields-take (λ t. ⊤) (λ t ok off. struct-takes (suc (reach t)) t (omega arith) off) vs (λ t h off. tt)
