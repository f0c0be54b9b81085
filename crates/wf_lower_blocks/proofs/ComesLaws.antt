-- What a call comes to is lowered as its statement is.
use Rattle.std.proofs.Common.{◌≡◌, ◌∙◌, ap, sym, subst, refl, ℕ, ◌<◌, ◌≤◌, true, Bool, Option, Some, Result, Ok, Err, IfOk, List, [], ◌∷◌, length, if◌then◌else◌, nat_lt, arith}
use Rattle.std.specs.Prelude.{slice_get, slice_index_or, unwrap_or}
use Rattle.std.proofs.lemmas.Bool.Decides.{nat_tests}
use Rattle.wf_text.specs.declared.faults.NoMemory.{NoMemory}
use Rattle.wf_text.specs.declared.place.Place.{Place}
use Rattle.wf_base.specs.declared.base_methods.BaseSig.{BaseSig}
use Rattle.wf_base.specs.declared.base_methods.BaseSig.TheVariants as sigs
use Rattle.wf_ast.specs.declared.numbers.ExprId.{ExprId}
use Rattle.wf_ast.specs.declared.typed_nodes.TypedNodes.{TypedNodes}
use Rattle.wf_ast.specs.TypedInvariant.{IsTyped}
use Rattle.wf_ast.specs.TypedTree.{lost, ValueTree, Target, Awaited, skip_fast, Called, Simple, await, invoke, give_back}
use Rattle.wf_ast.specs.TypedPackage.{MethodTree, package_of}
use Rattle.wf_ast.specs.TypedTrees.{base_call, io_in}
use Rattle.wf_ast.specs.WellTyped.{number_of}
use Rattle.wf_ast.specs.NodeKinds.{node_number}
use Rattle.wf_ast.proofs.Accessors.{there}
use Rattle.c_text.specs.declared.ids.CStmtId.{CStmtId}
use Rattle.c_text.specs.CNodes.{Nodes}
use Rattle.c_text.specs.CTree.{Code}
use Rattle.wf_exprs.specs.Grown.{HasCode}
use Rattle.wf_lower_stmts.specs.BodyNodes.{AreAlike, target_in}
use Rattle.wf_lower_stmts.specs.Forms.{Form, resume_here}
use Rattle.wf_lower_stmts.specs.Statements.{awoken_call, begun_call, handed_call, lower_call, lower_plain, lower_point, lower_simple, plain_call}
use Rattle.wf_lower_stmts.specs.declared.targets.Target.{Target as TargetNode}
use Rattle.wf_lower_stmts.proofs.BodyLaws.{form_is}
use Rattle.wf_lower_blocks.specs.declared.awaiting.Awaiting.{Awaiting}
use Rattle.wf_lower_blocks.specs.declared.calling.Called.{Called as CalledNode}
use Rattle.wf_lower_blocks.specs.declared.calling.Invoked.{Invoked}
use Rattle.wf_lower_blocks.specs.declared.performing.Written.TheVariants as writing
use Rattle.wf_lower_blocks.specs.declared.statements.Comes.{Comes}
use Rattle.wf_lower_blocks.specs.declared.statements.Comes.TheVariants as comes
use Rattle.wf_lower_blocks.specs.Calls.{ComesTo, awaited_in, called_in, callee_in, given_in, is_called, no_method}
use Rattle.wf_lower_blocks.proofs.AlikeLaws.{awoken_alike, call_alike}

lt_from : (m n : ℕ) → nat_lt m n ≡ true → m < n
lt_from m n h = grind (arith, nat_tests, h)

-- What a call is of is a method of the package.
pub callee_there : (nodes : TypedNodes) → IsTyped nodes → (called : CalledNode) → is_called nodes called ≡ true → slice_get (package_of nodes).methods (number_of (called_in called)) ≡ Some (callee_in nodes called)
callee_there nodes typed called h =
    let n = number_of (called_in called) in
    let known : n < length nodes.methods = lt_from n (length nodes.methods) h in
    let m = there nodes.methods n known in
    let b = there nodes.bodies n (omega (arith, known, typed.bodied)) in
    let is = form_is nodes n m.0 b.0 m.1 b.1 in
    is ∙ sym (ap (λ o. Some (unwrap_or o no_method)) is)

module _ (nodes : TypedNodes) (f : Form) (k : ℕ) (rest : Code) where
  await_is : (it : Awaiting) (x : Simple) → ComesTo nodes (comes.Await it) x → (at : Place) × (lower_point f k (await at (target_in nodes it.target) it.a (awaited_in nodes it.call)) rest ≡ lower_simple f k x rest)
  await_is it (await at t a call) h =
      let code : ℕ → Awaited → Code = λ n c. begun_call f.names n c (resume_here k (awoken_call f k (target_in nodes it.target) n c rest)) in (
        at,
        ap (λ n. code n (awaited_in nodes it.call)) h.1.0 ∙ ap (λ c. code a c) h.1.1
            ∙ ap (λ r. begun_call f.names a call (resume_here k r)) (sym (awoken_alike f k t (target_in nodes it.target) h.0 a call rest)),
      )
  await_is it x h = absurd h

  module _ (what : Invoked) (found : slice_get f.within.methods (number_of (called_in what.called)) ≡ Some (callee_in nodes what.called)) where
    hand_on_is : (x : Simple) → ComesTo nodes (comes.HandOn what) x
        → resume_here k (handed_call f k (called_in what.called) (Some (callee_in nodes what.called)) (given_in nodes what.args.now) rest) ≡ lower_simple f k x rest
    hand_on_is (invoke at t keep mark called given) h =
        let code : Called → Option MethodTree → List ValueTree → Code = λ c m g. resume_here k (handed_call f k c m g rest) in
        let whole : Bool → Code = λ b. if b then lower_point f k (invoke at t keep mark called given) rest else lower_plain f (invoke at t keep mark called given) rest in
        ap (λ g. code (called_in what.called) (Some (callee_in nodes what.called)) g) (sym h.1.1)
        ∙ ap (λ m. code (called_in what.called) m given) (sym found)
        ∙ ap (λ c. code c (slice_get f.within.methods (number_of c)) given) h.1.0
        ∙ ap whole (sym h.0)
    hand_on_is x h = absurd h

    invoke_is : (target : TargetNode) (x : Simple) → ComesTo nodes (comes.Invoke target what) x
        → lower_call f (target_in nodes target) (called_in what.called) (callee_in nodes what.called) (given_in nodes what.args.now) rest ≡ lower_simple f k x rest
    invoke_is target (invoke at t keep mark called given) h =
        let code : Called → Option MethodTree → List ValueTree → Code = λ c m g. plain_call f t c m g rest in
        let whole : Bool → Code = λ b. if b then lower_point f k (invoke at t keep mark called given) rest else lower_plain f (invoke at t keep mark called given) rest in
        sym (call_alike f t (target_in nodes target) h.1.0 (called_in what.called) (callee_in nodes what.called) (given_in nodes what.args.now) rest)
        ∙ ap (λ g. code (called_in what.called) (Some (callee_in nodes what.called)) g) (sym h.1.1.1)
        ∙ ap (λ m. code (called_in what.called) m given) (sym found)
        ∙ ap (λ c. code c (slice_get f.within.methods (number_of c)) given) h.1.1.0
        ∙ ap whole (sym h.0)
    invoke_is target x h = absurd h

  nothing_is : (x : Simple) → ComesTo nodes comes.Nothing x → rest ≡ lower_simple f k x rest
  nothing_is (give_back (Some lost)) h = refl
  nothing_is x h = absurd h

  -- The same of what the unit has.
  module _ (u : Nodes) where
    as_code : (s : ℕ) (code other : Code) → HasCode u s code → code ≡ other → HasCode u s other
    as_code s code other h same = record { there = h.there; is = h.is ∙ same }

    pub await_made : (it : Awaiting) (r : Result CStmtId NoMemory) → IfOk r (λ code. (at : Place) → HasCode u code.0 (lower_point f k (await at (target_in nodes it.target) it.a (awaited_in nodes it.call)) rest))
        → IfOk r (λ code. (x : Simple) → ComesTo nodes (comes.Await it) x → HasCode u code.0 (lower_simple f k x rest))
    await_made it (Ok code) h = λ x c. let e = await_is it x c in as_code code.0 _ _ (h e.0) e.1
    await_made it (Err refused) h = h

    module _ (what : Invoked) (found : slice_get f.within.methods (number_of (called_in what.called)) ≡ Some (callee_in nodes what.called)) where
      pub hand_on_made : (r : Result CStmtId NoMemory) → IfOk r (λ code. HasCode u code.0 (resume_here k (handed_call f k (called_in what.called) (Some (callee_in nodes what.called)) (given_in nodes what.args.now) rest)))
          → IfOk r (λ code. (x : Simple) → ComesTo nodes (comes.HandOn what) x → HasCode u code.0 (lower_simple f k x rest))
      hand_on_made (Ok code) h = λ x c. as_code code.0 _ _ h (hand_on_is what found x c)
      hand_on_made (Err refused) h = h

      pub invoke_made : (target : TargetNode) (r : Result CStmtId NoMemory) → IfOk r (λ code. HasCode u code.0 (lower_call f (target_in nodes target) (called_in what.called) (callee_in nodes what.called) (given_in nodes what.args.now) rest))
          → IfOk r (λ code. (x : Simple) → ComesTo nodes (comes.Invoke target what) x → HasCode u code.0 (lower_simple f k x rest))
      invoke_made target (Ok code) h = λ x c. as_code code.0 _ _ h (invoke_is what found target x c)
      invoke_made target (Err refused) h = h

    pub nothing_made : (s : ℕ) → HasCode u s rest → (x : Simple) → ComesTo nodes comes.Nothing x → HasCode u s (lower_simple f k x rest)
    nothing_made s h x c = as_code s _ _ h (nothing_is x c)

-- The same of a call that is known to come to this, with the number that its statement was found to have.
module _ (nodes : TypedNodes) (f : Form) (rest : Code) (u : Nodes) (made : Comes) (n : ℕ) (r : Result CStmtId NoMemory) where
  abbrev pub Lowers : Comes → Type 0
  Lowers m = IfOk r (λ code. (x : Simple) → ComesTo nodes m x → HasCode u code.0 (lower_simple f n x rest))

  pub await_done : (it : Awaiting) (k : ℕ) → k ≡ n → made ≡ comes.Await it
      → IfOk r (λ code. (at : Place) → HasCode u code.0 (lower_point f k (await at (target_in nodes it.target) it.a (awaited_in nodes it.call)) rest)) → Lowers made
  await_done it k same is h =
      let K : ℕ → Type 0 = λ j. IfOk r (λ code. (at : Place) → HasCode u code.0 (lower_point f j (await at (target_in nodes it.target) it.a (awaited_in nodes it.call)) rest)) in
      subst (λ (m : Comes). Lowers m) (sym is) (await_made nodes f n rest u it r (subst K same h))

  pub hand_on_done : (what : Invoked) (k : ℕ) → slice_get f.within.methods (number_of (called_in what.called)) ≡ Some (callee_in nodes what.called) → k ≡ n → made ≡ comes.HandOn what
      → IfOk r (λ code. HasCode u code.0 (resume_here k (handed_call f k (called_in what.called) (Some (callee_in nodes what.called)) (given_in nodes what.args.now) rest))) → Lowers made
  hand_on_done what k found same is h =
      let K : ℕ → Type 0 = λ j. IfOk r (λ code. HasCode u code.0 (resume_here j (handed_call f j (called_in what.called) (Some (callee_in nodes what.called)) (given_in nodes what.args.now) rest))) in
      subst (λ (m : Comes). Lowers m) (sym is) (hand_on_made nodes f n rest u what found r (subst K same h))

  pub invoke_done : (what : Invoked) (target : TargetNode) → slice_get f.within.methods (number_of (called_in what.called)) ≡ Some (callee_in nodes what.called) → made ≡ comes.Invoke target what
      → IfOk r (λ code. HasCode u code.0 (lower_call f (target_in nodes target) (called_in what.called) (callee_in nodes what.called) (given_in nodes what.args.now) rest)) → Lowers made
  invoke_done what target found is h = subst (λ (m : Comes). Lowers m) (sym is) (invoke_made nodes f n rest u what found target r h)

-- A call of `skip_u32_fast` with both its arguments.
pub skip_comes : (nodes : TypedNodes) (target : TargetNode) (on : ValueTree) (a : ℕ) (sig : BaseSig) (given : List ExprId) (d : ExprId)
    → sig ≡ sigs.SkipFast → 2 ≤ length given → length given < 3 → a ≡ io_in on → (at : Place) (t : Target) → AreAlike t (target_in nodes target)
    → ComesTo nodes (comes.Perform target (writing.SkipFast a (slice_index_or given 0 d) (slice_index_or given 1 d))) (base_call at t on sig (given_in nodes given))
skip_comes nodes target on a sig (x ∷ y ∷ []) d is least most same at t alike =
    let P : BaseSig → Type 0 = λ s. ComesTo nodes (comes.Perform target (writing.SkipFast a x y)) (base_call at t on s (given_in nodes (x ∷ y ∷ []))) in
    subst P (sym is) (alike, ap (λ n. skip_fast n (node_number nodes x) (node_number nodes y)) same)
skip_comes nodes target on a sig [] d is least most same at t alike = absurd (omega (arith, least))
skip_comes nodes target on a sig (x ∷ []) d is least most same at t alike = absurd (omega (arith, least))
skip_comes nodes target on a sig (x ∷ y ∷ z ∷ rest) d is least most same at t alike = absurd (omega (arith, most))
