-- Where a body begins: at its first statement, or with what remains of it.
use Rattle.std.proofs.Common.{◌≡◌, ℕ, zero, suc, ◌+◌, Bool, true, false, not, ◌&&◌, ◌||◌, List, [], ◌∷◌, ◌++◌, map, Option, Some, None, refl, sym, subst, nat_eq, arith}
use Rattle.std.specs.Prelude.{slice_get}
use Rattle.std.specs.List.{list_all}
use Rattle.std.proofs.lemmas.Bool.{and_parts}
use Rattle.std.proofs.lemmas.Bool.Decides.{nat_tests}
use Rattle.wf_text.specs.declared.place.Place.{Place}
use Rattle.wf_base.specs.declared.widths.Width.{Width}
use Rattle.wf_base.specs.BaseTable.{bits_of}
use Rattle.wf_ast.specs.declared.types.Ty.{Ty}
use Rattle.wf_ast.specs.declared.types.Ty.TheVariants as types
use Rattle.wf_ast.specs.TypedTree.{equal, Simple, break_from, continue_in, give_back, Head, Block, end, plain, choose, loop}
use Rattle.wf_ast.specs.TypedTrees.{num_type}
use Rattle.wf_ast.specs.TypedPackage.{Variable, PackageTree}
use Rattle.wf_ast.specs.Value.{State, Value, num, compares}
use Rattle.wf_ast.specs.WellTyped.{Context, variable_at, same_num_type, is_range, is_number, may_be_local, is_word_true, leaves, never_goes_on}
use Rattle.wf_facts_exprs.specs.Claims.{Claim, AllTrue}
use Rattle.wf_facts_exprs.specs.LawfulState.{well_claim}
use Rattle.wf_facts.specs.Changes.{has_no_sum}
use Rattle.wf_facts.specs.FactLists.{with_condition}
use Rattle.wf_meaning.specs.World.{World, Body, view}
use Rattle.wf_meaning.specs.SourceCall.{fresh_local}
use Rattle.wf_bounds_stmts.specs.FactRules.{Known, known_behind, behind_loop}
use Rattle.wf_bounds_stmts.specs.MethodRules.{zero_fact, zero_facts}
use Rattle.wf_sound.specs.Worlds.{Shape, numbers_of, IsOfType, HaveTypes}
use Rattle.wf_sound.specs.OneStep.{AreFactsOf}
use Rattle.wf_sound_runs.proofs.Accepts.{After, Joins, Accepts}

-- A block that never goes on has no end that is reached.
module _ (c : Context) where
  abbrev Rest : List (ℕ × Head) → Block → (List Claim → Type 0) → Known → Type 0
  Rest loops rest K k = After k (λ gs. AreFactsOf c gs × Accepts c loops rest gs K)

  rest-never : (loops : List (ℕ × Head)) (rest : Block) (K : List Claim → Type 0) (k : Known) → ((gs : List Claim) → Accepts c loops rest gs K → Accepts c loops rest gs (λ es. ⊥)) → Rest loops rest K k → Rest loops rest (λ es. ⊥) k
  rest-never loops rest K None f a = tt
  rest-never loops rest K (Some gs) f a = (a.0, f gs a.1)

  jump-never : (loops : List (ℕ × Head)) (rest : Block) (fs : List Claim) (s : Simple) → leaves s ≡ true → Rest loops rest (λ es. ⊥) (known_behind fs s)
  jump-never loops rest fs (give_back v) e = tt
  jump-never loops rest fs (break_from w) e = tt
  jump-never loops rest fs (continue_in w) e = tt
  jump-never loops rest fs s e = absurd (cc (e))

  either-way : {P : Type 0} (a b : Bool) → (a || b) ≡ true → (a ≡ true → P) → (b ≡ true → P) → P
  either-way true b h f g = f refl
  either-way false b h f g = g h

  pub never-ends : (loops : List (ℕ × Head)) (blk : Block) (fs : List Claim) (K : List Claim → Type 0) → never_goes_on blk ≡ true → Accepts c loops blk fs K → Accepts c loops blk fs (λ es. ⊥)
  never-ends loops end fs K n h = absurd (cc (n))
  never-ends loops (plain site s rest) fs K n h =
      (h.0, either-way (leaves s) (never_goes_on rest) n (jump-never loops rest fs s) (λ e. rest-never loops rest K (known_behind fs s) (λ gs a. never-ends loops rest gs K e a) h.1))
  never-ends loops (choose site chained t x y rest) fs K n h =
      either-way (never_goes_on x && never_goes_on y) (never_goes_on rest) n
      (λ e. let p = and_parts (never_goes_on x) _ e in (
        h.0,
        (
          h.1.0,
          (
            None,
            never-ends loops x (with_condition fs t true) (λ es. Joins es h.1.1.0) p.0 h.1.1.1,
            never-ends loops y (with_condition fs t false) (λ es. Joins es h.1.1.0) p.1 h.1.1.2,
            tt,
          ),
        ),
      ))
      (λ e. (h.0, (h.1.0, (h.1.1.0, h.1.1.1, h.1.1.2, rest-never loops rest K h.1.1.0 (λ gs a. never-ends loops rest gs K e a) h.1.1.3))))
  never-ends loops (loop site head body rest) fs K n h =
      either-way (is_word_true head.cond && not head.is_left) (never_goes_on rest) n
      (λ e. (h.0, (h.1.0, (h.1.1.0, forever e))))
      (λ e. (h.0, (h.1.0, (h.1.1.0, rest-never loops rest K (behind_loop head) (λ gs a. never-ends loops rest gs K e a) h.1.1.1))))
    where
      forever : (is_word_true head.cond && not head.is_left) ≡ true → Rest loops rest (λ es. ⊥) (behind_loop head)
      forever e = rw e tt

-- Locals begin as zero, false, ok and empty.
pub fresh-typed : (p : PackageTree) (shape : Shape) (xs : List Variable) → list_all (λ x. may_be_local x.ty) xs ≡ true → HaveTypes p shape xs (map (λ x. fresh_local x.ty) xs)
fresh-typed p shape xs h = record { each = each xs h }
  where
    one : (ty : Ty) → may_be_local ty ≡ true → IsOfType p shape ty (fresh_local ty)
    one (types.Num width lo hi) m =
        let q = and_parts (is_range (numbers_of width lo hi)) _ m in
        let z : lo ≡ 0 = grind (arith, nat_tests, q.1) in
        record { above = omega (arith, z); below = omega arith }
    one types.Flag m = tt
    one types.Status m = tt
    one (types.Slice width) m = record { few = omega arith; inside = omega arith; takes = refl }
    one ty m = absurd (cc (m))

    each : (xs : List Variable) → list_all (λ x. may_be_local x.ty) xs ≡ true → (n : ℕ) (ty : Ty) → variable_at xs n ≡ Some ty → (v : Value) × (slice_get (map (λ x. fresh_local x.ty) xs) n ≡ Some v) × IsOfType p shape ty v
    each [] h n ty e = absurd (cc (e))
    each (x ∷ xs) h zero ty e =
        let same : x.ty ≡ ty = cc (e) in
        let P : Ty → Type 0 = λ ty. IsOfType p shape ty (fresh_local x.ty) in
        (fresh_local x.ty, refl, subst P same (one x.ty (and_parts (may_be_local x.ty) _ h).0))
    each (x ∷ xs) h (suc n) ty e = each xs (and_parts (may_be_local x.ty) _ h).1 n ty e

-- And that is what is known first.
push-true : (s : State) (fs gs : List Claim) → AllTrue s fs → AllTrue s gs → AllTrue s (fs ++ gs)
push-true s [] gs h k = k
push-true s (f ∷ fs) gs h k = (h.0, push-true s fs gs h.1 k)

pub zeros-true : (b : Body) (w : World) (locals : List Value) (local_at : ℕ → Place) (n : ℕ) (xs : List Variable) → ((i : ℕ) (ty : Ty) → variable_at xs i ≡ Some ty → slice_get locals (n + i) ≡ Some (fresh_local ty)) → AllTrue (view b locals w) (zero_facts local_at n xs)
zeros-true b w locals local_at n [] h = tt
zeros-true b w locals local_at n (x ∷ xs) h =
    push-true (view b locals w) (zero_fact (local_at n) n x.ty) (zero_facts local_at (suc n) xs) (one x.ty (h 0 x.ty refl))
    (zeros-true b w locals local_at (suc n) xs (λ i ty e. let same : n + suc i ≡ suc n + i = omega arith in let P : ℕ → Type 0 = λ k. slice_get locals k ≡ Some (fresh_local ty) in subst P same (h (suc i) ty e)))
  where
    zero_is : compares equal 0 0 ≡ true
    zero_is = refl

    one : (ty : Ty) → slice_get locals (n + 0) ≡ Some (fresh_local ty) → AllTrue (view b locals w) (zero_fact (local_at n) n ty)
    one (types.Num width lo hi) e =
        let same : n + 0 ≡ n = omega arith in
        let P : ℕ → Type 0 = λ k. slice_get locals k ≡ Some (num 0) in
        let there = subst P same e in
        (rw there refl, tt)
    one types.Flag e = tt
    one types.Status e = tt
    one types.Reader e = tt
    one types.Writer e = tt
    one (types.Slice width) e = tt
    one (types.Array width lo hi count) e = tt
    one (types.Part k) e = tt

both : (p q : Bool) → p ≡ true → q ≡ true → (p && q) ≡ true
both true q h k = k
both false q h k = absurd (cc (h))

module _ (c : Context) where
  append-facts : (fs gs : List Claim) → AreFactsOf c fs → AreFactsOf c gs → AreFactsOf c (fs ++ gs)
  append-facts [] gs h k = k
  append-facts (f ∷ fs) gs h k =
      let p = and_parts (well_claim c f) _ h.well in
      let q = and_parts (has_no_sum f) _ h.plain in
      let r : AreFactsOf c (fs ++ gs) = append-facts fs gs (record { well = p.1; plain = q.1 }) k in
      record { well = both (well_claim c f) _ p.0 r.well; plain = both (has_no_sum f) _ q.0 r.plain }

  pub zero-facts : (local_at : ℕ → Place) (n : ℕ) (xs : List Variable) → list_all (λ x. may_be_local x.ty) xs ≡ true → ((i : ℕ) (ty : Ty) → variable_at xs i ≡ Some ty → variable_at c.method.locals (n + i) ≡ Some ty) → AreFactsOf c (zero_facts local_at n xs)
  zero-facts local_at n [] m h = record { well = refl; plain = refl }
  zero-facts local_at n (x ∷ xs) m h =
      let p = and_parts (may_be_local x.ty) _ m in
      append-facts (zero_fact (local_at n) n x.ty) (zero_facts local_at (suc n) xs) (one x.ty p.0 (h 0 x.ty refl))
      (zero-facts local_at (suc n) xs p.1 (λ i ty e. let same : n + suc i ≡ suc n + i = omega arith in let P : ℕ → Type 0 = λ k. variable_at c.method.locals k ≡ Some ty in subst P same (h (suc i) ty e)))
    where
      itself : (width : Width) (lo hi : ℕ) → same_num_type (num_type (types.Num width lo hi)) (record { bits = bits_of width; low = lo; high = hi }) ≡ true
      itself width lo hi = both (nat_eq (bits_of width) (bits_of width)) _ (grind (arith, nat_tests)) (both (nat_eq lo lo) _ (grind (arith, nat_tests)) (grind (arith, nat_tests)))

      nothing : AreFactsOf c []
      nothing = record { well = refl; plain = refl }

      one : (ty : Ty) → may_be_local ty ≡ true → variable_at c.method.locals (n + 0) ≡ Some ty → AreFactsOf c (zero_fact (local_at n) n ty)
      one (types.Num width lo hi) k e =
          let q = and_parts (is_range (numbers_of width lo hi)) _ k in
          let same : n + 0 ≡ n = omega arith in
          let P : ℕ → Type 0 = λ k. variable_at c.method.locals k ≡ Some (types.Num width lo hi) in
          let there = subst P same e in
          let Q : Option Ty → Type 0 = λ o. is_number (num_type (types.Num width lo hi)) o ≡ true in
          let number_is : is_number (num_type (types.Num width lo hi)) (variable_at c.method.locals n) ≡ true = subst Q (sym there) (itself width lo hi) in
          record { well = both _ _ (both _ _ (both (is_range (num_type (types.Num width lo hi))) _ q.0 number_is) refl) refl; plain = refl }
      one types.Flag k e = nothing
      one types.Status k e = nothing
      one (types.Slice width) k e = nothing
      one types.Reader k e = nothing
      one types.Writer k e = nothing
      one (types.Array width lo hi count) k e = nothing
      one (types.Part s) k e = nothing
