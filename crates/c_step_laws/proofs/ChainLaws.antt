-- The number of cells is the greatest one of a chain that a host begins.
use Rattle.std.proofs.Common.{◌≡◌, ◌⊎◌, inl, inr, ◌≤◌, ℕ, zero, suc, ◌+◌, Bool, true, false, List, [], ◌∷◌, ◌++◌, length, Option, Some, None, refl, sym, ap, ◌∙◌, subst, arith}
use Rattle.std.specs.Prelude.{if◌then◌else◌, slice_get, bytes_eq}
use Rattle.std.proofs.lemmas.List.{append_assoc, length-append}
use Rattle.wf_text.specs.Surface.{Surface}
use Rattle.c_text.specs.declared.kinds.Linkage.{Linkage}
use Rattle.c_text.specs.declared.kinds.Linkage.TheVariants.{External, Static, StaticInline}
use Rattle.c_text.specs.CTree.{ItemTree}
use Rattle.c_meaning.specs.CTypes.{Function}
use Rattle.c_meaning.specs.CCall.{Program, program_of}
use Rattle.c_meaning.specs.UnitForm.{HasUnitForm}
use Rattle.c_step_exprs.specs.Resolving.{function_number}
use Rattle.c_step_run.specs.Coding.{CodeView}
use Rattle.c_step_program.specs.Programs.{code_of}
use Rattle.c_step_cells.specs.Chains.{called_cells, chain_cells as table_cells, table_of, from_host, frame_cells}
use Rattle.c_step_laws.specs.Callees.{IsIn, Placed, placed, last_named, callees}
use Rattle.c_step_laws.specs.CallChains.{IsChain, chain_cells, StandsIn, NoneExternal, HasChainOf, IsGreatestOfChains, CellsAreOfChains}
use Rattle.c_step_laws.proofs.Lists.{greatest, at_most_greatest, IsGreatest, none, one, is_greatest, either, get_at}
use Rattle.c_step_laws.proofs.ExprCells.{numbered}
use Rattle.c_step_laws.proofs.Placing.{calls_by_tree}

module _ (c : CodeView) where
  abbrev pub table : List Function → List ℕ
  table fs = table_of c fs

  -- The cells of a function with those of what it calls.
  abbrev pub deep : Placed → ℕ
  deep f = table_cells c (table f.before) f.function

  one_longer : (n k : ℕ) → n ≡ k → n + 1 ≡ suc k
  one_longer n k e = omega (arith, e)

  pub as_long : (fs : List Function) → length (table fs) ≡ length fs
  as_long [] = refl
  as_long (f ∷ fs) = length-append (table fs) (table_cells c (table fs) f ∷ []) ∙ one_longer (length (table fs)) (length fs) (as_long fs)

  pub get_front : (xs ys : List ℕ) (k : ℕ) (x : ℕ) → slice_get xs k ≡ Some x → slice_get (xs ++ ys) k ≡ Some x
  get_front [] ys k x e = absurd (cc e)
  get_front (z ∷ xs) ys zero x e = e
  get_front (z ∷ xs) ys (suc k) x e = get_front xs ys k x e

  -- A function that is found by its name has its place, its number and its cells.
  pub record IsFound (fs : List Function) (name : List ℕ) (g : Placed) : Type 0 where
    pub after : List Function
    pub stands : fs ≡ after ++ g.function ∷ g.before
    pub number : function_number fs name ≡ Some (length g.before)
    pub cells : slice_get (table fs) (length g.before) ≡ Some (deep g)

  last_cells : (f : Function) (fs : List Function) → slice_get (table (f ∷ fs)) (length fs) ≡ Some (deep (placed f fs))
  last_cells f fs = ap (slice_get (table (f ∷ fs))) (sym (as_long fs)) ∙ get_at (table fs) (table_cells c (table fs) f) []

  pub found : (fs : List Function) (name : List ℕ) (g : Placed) → last_named fs name ≡ Some g → IsFound fs name g
  found [] name g e = absurd (cc e)
  found (f ∷ fs) name g e = by (bytes_eq f.name name) refl e (found fs name g)
    where
      by : (b : Bool) → bytes_eq f.name name ≡ b → (if b then Some (placed f fs) else last_named fs name) ≡ Some g → (last_named fs name ≡ Some g → IsFound fs name g) → IsFound (f ∷ fs) name g
      by true h e more =
          let is : placed f fs ≡ g = cc e in
          subst (λ (k : Placed). IsFound (f ∷ fs) name k) is (record {
            after = [];
            stands = refl;
            number = ap (λ (b : Bool). if b then Some (length fs) else function_number fs name) h;
            cells = last_cells f fs;
          })
      by false h e more =
          let k = more e in record {
            after = f ∷ k.after;
            stands = ap (λ gs. f ∷ gs) k.stands;
            number = ap (λ (b : Bool). if b then Some (length fs) else function_number fs name) h ∙ k.number;
            cells = get_front (table fs) (table_cells c (table fs) f ∷ []) (length g.before) (deep g) k.cells;
          }

  -- One that isn't found has no number.
  pub not_found : (fs : List Function) (name : List ℕ) → last_named fs name ≡ None → function_number fs name ≡ None
  not_found [] name e = refl
  not_found (f ∷ fs) name e = by (bytes_eq f.name name) e (not_found fs name)
    where
      by : (b : Bool) → (if b then Some (placed f fs) else last_named fs name) ≡ None → (last_named fs name ≡ None → function_number fs name ≡ None) → (if b then Some (length fs) else function_number fs name) ≡ None
      by true e more = absurd (cc e)
      by false e more = more e

  abbrev pub of_name : List Function → List ℕ → ℕ
  of_name fs name = numbered (table fs) (function_number fs name)

  pub found_cells : (fs : List Function) (name : List ℕ) (g : Placed) → last_named fs name ≡ Some g → of_name fs name ≡ deep g
  found_cells fs name g e = let k = found fs name g e in rw (k.number, k.cells) refl

  not_found_cells : (fs : List Function) (name : List ℕ) → last_named fs name ≡ None → of_name fs name ≡ 0
  not_found_cells fs name e = ap (numbered (table fs)) (not_found fs name e)

  -- What is proved of the code: a function calls what its tree calls.
  module _ (p : Program) (tree : (after : List Function) (f : Function) (fs : List Function) → p.functions ≡ after ++ f ∷ fs → called_cells c (table fs) (length (table fs)) ≡ greatest (of_name fs) (callees f)) where
    further : (after : List Function) (f : Placed) (name : List ℕ) (g : Placed) → p.functions ≡ after ++ f.function ∷ f.before → last_named f.before name ≡ Some g → StandsIn p g
    further after f name g is e =
        let k = found f.before name g e in
        (after ++ f.function ∷ k.after, is ∙ (ap (λ (gs : List Function). after ++ f.function ∷ gs) k.stands ∙ sym (append_assoc after (f.function ∷ k.after) (g.function ∷ g.before))))

    -- No chain has more.
    pub chain_most : (f : Placed) (gs : List Placed) → StandsIn p f → IsChain f gs → chain_cells f gs ≤ deep f
    chain_most f [] stands h = omega arith
    chain_most f (g ∷ gs) stands h =
        let more = chain_most g gs (further stands.0 f h.0.0 g stands.1 h.0.2) h.1 in
        let called = tree stands.0 f.function f.before stands.1 in
        let least = at_most_greatest (of_name f.before) h.0.0 (callees f.function) h.0.1 in
        let cells = found_cells f.before h.0.0 g h.0.2 in
        omega (arith, more, called, least, cells)

    -- Some chain has as many.
    pub record Reaches (f : Placed) : Type 0 where
      pub others : List Placed
      pub calls : IsChain f others
      pub cells : chain_cells f others ≡ deep f

    abbrev AllReach : List Function → Type 0
    AllReach fs = (name : List ℕ) (g : Placed) → last_named fs name ≡ Some g → Reaches g

    alone : (after : List Function) (f : Function) (fs : List Function) → p.functions ≡ after ++ f ∷ fs → greatest (of_name fs) (callees f) ≡ 0 → Reaches (placed f fs)
    alone after f fs is z = record { others = []; calls = tt; cells = let called = tree after f fs is in omega (arith, called, z) }

    reaches : (after : List Function) (f : Function) (fs : List Function) → p.functions ≡ after ++ f ∷ fs → AllReach fs → Reaches (placed f fs)
    reaches after f fs is all = by (is_greatest (of_name fs) (callees f))
      where
        with : (name : List ℕ) → IsIn name (callees f) → greatest (of_name fs) (callees f) ≡ of_name fs name → (o : Option Placed) → last_named fs name ≡ o → Reaches (placed f fs)
        with name has z None e = alone after f fs is (z ∙ not_found_cells fs name e)
        with name has z (Some g) e =
            let more = all name g e in
            let called = tree after f fs is in
            let cells = found_cells fs name g e in
            let long = more.cells in
            record { others = g ∷ more.others; calls = ((name, has, e), more.calls); cells = omega (arith, called, cells, long, z) }

        by : IsGreatest (of_name fs) (callees f) → Reaches (placed f fs)
        by (none z) = alone after f fs is z
        by (one name has z) = with name has z (last_named fs name) refl

    all_reach : (after fs : List Function) → p.functions ≡ after ++ fs → AllReach fs
    all_reach after [] is = λ name g e. absurd (cc e)
    all_reach after (f ∷ fs) is =
        let next : p.functions ≡ (after ++ f ∷ []) ++ fs = is ∙ sym (append_assoc after (f ∷ []) fs) in
        let more = all_reach (after ++ f ∷ []) fs next in
        λ name g e. by name g (bytes_eq f.name name) e more (reaches after f fs is more)
      where
        by : (name : List ℕ) (g : Placed) (b : Bool) → (if b then Some (placed f fs) else last_named fs name) ≡ Some g → AllReach fs → Reaches (placed f fs) → Reaches g
        by name g true e more here = let is : placed f fs ≡ g = cc e in subst Reaches is here
        by name g false e more here = more name g e

    pub each_reaches : (after : List Function) (f : Function) (fs : List Function) → p.functions ≡ after ++ f ∷ fs → Reaches (placed f fs)
    each_reaches after f fs is = reaches after f fs is (all_reach (after ++ f ∷ []) fs (is ∙ sym (append_assoc after (f ∷ []) fs)))

    -- The host's calls.
    pub host_most : (fs after : List Function) (f : Function) (before : List Function) → fs ≡ after ++ f ∷ before → f.linkage ≡ External → deep (placed f before) ≤ frame_cells c fs
    host_most fs [] f before is external =
        let n = ap (λ (l : Linkage). from_host l (deep (placed f before))) external in
        subst (λ (gs : List Function). deep (placed f before) ≤ frame_cells c gs) (sym is) (omega (arith, n))
    host_most [] (a ∷ after) f before is external = absurd (cc is)
    host_most (b ∷ fs) (a ∷ after) f before is external =
        let rest : fs ≡ after ++ f ∷ before = cc is in
        let more = host_most fs after f before rest external in
        omega (arith, more)

    -- The greatest is that of an external function, unless there is none.
    data HostReaches (fs : List Function) : Type 0 where
      never : NoneExternal fs → frame_cells c fs ≡ 0 → HostReaches fs
      by_one : (f : Function) (after before : List Function) → fs ≡ after ++ f ∷ before → f.linkage ≡ External → frame_cells c fs ≡ deep (placed f before) → HostReaches fs

    host_reaches : (fs : List Function) → HostReaches fs
    host_reaches [] = never (λ f h e. h) refl
    host_reaches (f ∷ fs) = by f.linkage refl (host_reaches fs)
      where
        inner : (l : Linkage) → f.linkage ≡ l → from_host l (deep (placed f fs)) ≡ 0 → (l ≡ External → ⊥) → HostReaches fs → HostReaches (f ∷ fs)
        inner l is zero_there other (never n z) =
            let m = ap (λ (k : Linkage). from_host k (deep (placed f fs))) is in
            never (λ g h e. not_one g h e n) (omega (arith, m, zero_there, z))
          where
            not_one : (g : Function) → IsIn g (f ∷ fs) → g.linkage ≡ External → NoneExternal fs → ⊥
            not_one g (inl s) e n = other (sym is ∙ (ap (λ (k : Function). k.linkage) (sym s) ∙ e))
            not_one g (inr h) e n = n g h e
        inner l is zero_there other (by_one g after before stands external z) =
            let m = ap (λ (k : Linkage). from_host k (deep (placed f fs))) is in
            by_one g (f ∷ after) before (ap (λ gs. f ∷ gs) stands) external (omega (arith, m, zero_there, z))

        outer : f.linkage ≡ External → HostReaches fs → HostReaches (f ∷ fs)
        outer is (never n z) =
            let m = ap (λ (k : Linkage). from_host k (deep (placed f fs))) is in
            by_one f [] fs refl is (omega (arith, m, z))
        outer is (by_one g after before stands external z) = larger (either (from_host f.linkage (deep (placed f fs))) (frame_cells c fs))
          where
            larger : (frame_cells c (f ∷ fs) ≡ from_host f.linkage (deep (placed f fs))) ⊎ (frame_cells c (f ∷ fs) ≡ frame_cells c fs) → HostReaches (f ∷ fs)
            larger (inl e) = by_one f [] fs refl is (e ∙ ap (λ (k : Linkage). from_host k (deep (placed f fs))) is)
            larger (inr e) = by_one g (f ∷ after) before (ap (λ gs. f ∷ gs) stands) external (e ∙ z)

        by : (l : Linkage) → f.linkage ≡ l → HostReaches fs → HostReaches (f ∷ fs)
        by External is h = outer is h
        by Static is h = inner Static is refl (λ e. cc e) h
        by StaticInline is h = inner StaticInline is refl (λ e. cc e) h

    pub is_greatest_of_chains : IsGreatestOfChains p (frame_cells c p.functions)
    is_greatest_of_chains = record {
      most = λ first others h.
          let a = chain_most first others h.stands h.calls in
          let b = host_most p.functions h.stands.0 first.function first.before h.stands.1 h.external in
          omega (arith, a, b);
      reached = by (host_reaches p.functions);
    }
      where
        by : HostReaches p.functions → HasChainOf p (frame_cells c p.functions) ⊎ (NoneExternal p.functions × (frame_cells c p.functions ≡ 0))
        by (never n z) = inr (n, z)
        by (by_one f after before stands external z) =
            let k = each_reaches after f before stands in
            inl (record { first = placed f before; others = k.others; begins = record { stands = (after, stands); external = external; calls = k.calls }; cells = k.cells ∙ sym z })

-- The code of a text calls what its tree calls.
pub by_tree : (surface : Surface) (items : List ItemTree) → HasUnitForm surface items → (after : List Function) (f : Function) (fs : List Function) → (program_of items).functions ≡ after ++ f ∷ fs
    → called_cells (code_of (program_of items) (program_of items).functions) (table_of (code_of (program_of items) (program_of items).functions) fs) (length (table_of (code_of (program_of items) (program_of items).functions) fs))
    ≡ greatest (of_name (code_of (program_of items) (program_of items).functions) fs) (callees f)
by_tree surface items form after f fs is =
    let c = code_of (program_of items) (program_of items).functions in
    ap (called_cells c (table_of c fs)) (as_long c fs) ∙ calls_by_tree surface items form after f fs is (table_of c fs) (as_long c fs)

pub cells_of_chains : CellsAreOfChains
cells_of_chains surface items form = is_greatest_of_chains (code_of (program_of items) (program_of items).functions) (program_of items) (by_tree surface items form)
