-- The methods of a package that keeps the rules of names have an order in which each stands after those that it calls, and its
-- structs one in which each stands after those that its fields hold: those that reach fewer come first.
use Rattle.std.proofs.Common.{◌≡◌, ℕ, ◌<◌, Bool, true, false, List, map, length, slice_get, Option, None, Some, refl, sym, ◌∙◌, ap, arith}
use Rattle.std.specs.List.{list_any}
use Rattle.std.specs.Option.{option_map}
use Rattle.std.proofs.lemmas.List.{length-map}
use Rattle.std.proofs.lemmas.Option.{slice_get_within}
use Rattle.graphs.specs.Graphs.{Path, last, more, holds, row_in, goes}
use Rattle.graphs.specs.Orders.{IsOrder}
use Rattle.wf_text.specs.declared.rules.Refusal.{Refusal}
use Rattle.wf_names_rules.specs.Declarations.{Structure, Method, Declared, declared}
use Rattle.wf_names_rules.specs.Meanings.{known_at}
use Rattle.wf_names_rules.specs.NameRules.{calls, method_calls, Breaks, by_use, by_cycle, recursion, holds_itself}
use Rattle.wf_names_rules.specs.Sizes.{struct_held, is_the, fields_at, holds_struct}
use Rattle.wf_names_rules.specs.Uses.{method_uses, method_scope}
use Rattle.wf_names_scopes.specs.CallRows.{called_in, AreRows}
use Rattle.wf_names_scopes.proofs.CallRowLemmas.{row-is}
use Rattle.wf_names_cycles.proofs.SectionLemmas.{methods-within}
use Rattle.wf_names_sizes.specs.StructSizes.{row_of, structs_in}
use Rattle.wf_names_sizes.proofs.HoldingLemmas.{row-goes, held-below, structs-listed}
use Rattle.wf_names_laws.proofs.FrontLemmas.{order-long, order-front, calls-open}
use Rattle.wf_names_laws.proofs.StructOrders.{struct-order-stands}
use Rattle.wf_names_verdicts.specs.NameVerdicts.{KeptPackagesHaveAnOrder}
use Rattle.wf_names_verdicts.proofs.Cycles.{caller-there}
use Rattle.wf_names_verdicts.proofs.Large.{mapped-at}
use Rattle.wf_names_verdicts.proofs.Ranked.{held-all, in-front, ranked, ranked-long, ranked-below, ranked-all, ranked-once, ranked-ranked}
use Rattle.wf_names_verdicts.proofs.Ways.{reached, fewer}

-- A graph over the numbers below n without cycles has an order.
module _ (rows : List (List ℕ)) (step : ℕ → ℕ → Bool) (n : ℕ) (long : length rows ≡ n) (same : (a b : ℕ) → goes rows a b ≡ step a b)
    (there : (a b : ℕ) → step a b ≡ true → a < n) (within : (a b : ℕ) → step a b ≡ true → b < n) (off-cycles : (a : ℕ) → Path step a a → ⊥) where
  rank : ℕ → ℕ
  rank a = reached step n there a

  by-rank : List ℕ
  by-rank = ranked rank n

  is-order : IsOrder rows by-rank
  unfolding rank by-rank
  is-order = record {
    whole = ranked-long rank n ∙ sym long;
    within = λ a h.
        let below : a < n = held-all (λ y. y < n) (ranked rank n) a (ranked-below rank n) h in
        omega (arith, below, long);
    once = ranked-once rank n;
    behind = λ i a b e g.
        let s : step a b ≡ true = sym (same a b) ∙ g in
        let below : b < n = within a b s in
        in-front rank (ranked rank n) (ranked-ranked rank n) i a b e (ranked-all rank n b below) (fewer step n there a b s (off-cycles b) below);
  }

module _ (d : Declared) where
  row : Method → List ℕ
  row m = called_in (known_at d (method_scope d m)) (method_uses m)

  rows : List (List ℕ)
  rows = map row d.methods

  rows-go : (a b : ℕ) → goes rows a b ≡ calls d a b
  unfolding rows row
  rows-go a b = ap (λ o. holds (row_in o) b) (mapped-at row d.methods a) ∙ by_method (slice_get d.methods a)
    where
      by_method : (o : Option Method) → holds (row_in (option_map row o)) b ≡ method_calls d o b
      by_method None = refl
      by_method (Some m) = row-is d m (known_at d (method_scope d m)) (λ c. refl) b

  rows-made : AreRows d rows (length d.methods)
  unfolding rows
  rows-made = record { len = length-map d.methods row; made = λ a b below. rows-go a b }

  callee-there : (a b : ℕ) → calls d a b ≡ true → b < length d.methods
  callee-there a b h =
      let there : b < length rows = methods-within d rows rows-made a b (rows-go a b ∙ h) in
      omega (arith, there, rows-made.len)

  caller-some : (a b : ℕ) → calls d a b ≡ true → slice_get d.methods a ≡ None → ⊥
  caller-some a b h e = let none : calls d a b ≡ false = ap (λ m. method_calls d m b) e in cc (h, none)

  way-some : (a b : ℕ) → Path (calls d) a b → slice_get d.methods a ≡ None → ⊥
  way-some _ _ (last a b s) e = caller-some a b s e
  way-some _ _ (more a b c s p) e = caller-some a b s e

  module _ (kept : (s : Refusal) → Breaks d s → ⊥) where
    none-calls-itself : (a : ℕ) → Path (calls d) a a → ⊥
    none-calls-itself a p = by_method (slice_get d.methods a) refl
      where
        by_method : (o : Option Method) → slice_get d.methods a ≡ o → ⊥
        by_method None e = way-some a a p e
        by_method (Some m) e = kept _ (by_cycle _ (recursion a m e p))

    order : List ℕ
    order = by-rank rows (calls d) (length d.methods) rows-made.len rows-go (caller-there d) callee-there none-calls-itself

    order-stands : IsOrder rows order
    unfolding order
    order-stands = is-order rows (calls d) (length d.methods) rows-made.len rows-go (caller-there d) callee-there none-calls-itself

module _ (d : Declared) where
  struct-rows : List (List ℕ)
  struct-rows = map structs_in (map (row_of d) d.structs)

  struct-rows-long : length struct-rows ≡ length d.structs
  unfolding struct-rows
  struct-rows-long = structs-listed d

  struct-rows-go : (a b : ℕ) → goes struct-rows a b ≡ holds_struct d a b
  unfolding struct-rows
  struct-rows-go a b = row-goes d b d.structs a

  held-there : (a b : ℕ) → holds_struct d a b ≡ true → b < length d.structs
  held-there a b h = held-below d b (fields_at (slice_get d.structs a)) h

  holder-there : (a b : ℕ) → holds_struct d a b ≡ true → a < length d.structs
  holder-there a b h = by_struct (slice_get d.structs a) refl h
    where
      by_struct : (o : Option Structure) → slice_get d.structs a ≡ o → list_any (λ v. is_the b (struct_held d v.of)) (fields_at o) ≡ true → a < length d.structs
      by_struct None e k = absurd (cc k)
      by_struct (Some s) e k = slice_get_within d.structs a s e

  holder-some : (a b : ℕ) → holds_struct d a b ≡ true → slice_get d.structs a ≡ None → ⊥
  holder-some a b h e = let none : holds_struct d a b ≡ false = ap (λ s. list_any (λ v. is_the b (struct_held d v.of)) (fields_at s)) e in cc (h, none)

  holding-some : (a b : ℕ) → Path (holds_struct d) a b → slice_get d.structs a ≡ None → ⊥
  holding-some _ _ (last a b s) e = holder-some a b s e
  holding-some _ _ (more a b c s p) e = holder-some a b s e

  module _ (kept : (s : Refusal) → Breaks d s → ⊥) where
    none-holds-itself : (a : ℕ) → Path (holds_struct d) a a → ⊥
    none-holds-itself a p = by_struct (slice_get d.structs a) refl
      where
        by_struct : (o : Option Structure) → slice_get d.structs a ≡ o → ⊥
        by_struct None e = holding-some a a p e
        by_struct (Some it) e = kept _ (by_cycle _ (holds_itself a it e p))

    struct-order : List ℕ
    struct-order = by-rank struct-rows (holds_struct d) (length d.structs) struct-rows-long struct-rows-go holder-there held-there none-holds-itself

    struct-order-is : IsOrder struct-rows struct-order
    unfolding struct-order
    struct-order-is = is-order struct-rows (holds_struct d) (length d.structs) struct-rows-long struct-rows-go holder-there held-there none-holds-itself

pub kept-have-orders : KeptPackagesHaveAnOrder
kept-have-orders name texts decls kept =
    let d = declared texts decls in
    let calling = order d kept in
    let holding = struct-order d kept in
    let ordered = order-stands d kept in (
      calling,
      holding,
      record {
        long = order-long texts decls name calling holding (rows d) (rows-made d) ordered;
        in_front = order-front texts decls name calling holding (rows d) (rows-made d) ordered (calls-open d (λ s b. kept s (by_use s b)));
        structs = struct-order-stands name texts decls calling holding kept (struct-rows d) (struct-rows-long d) (struct-rows-go d) (struct-order-is d kept);
      },
    )
