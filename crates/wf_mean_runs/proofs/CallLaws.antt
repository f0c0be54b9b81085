-- The calls of methods in a body.
use Rattle.std.proofs.Common.{◌≡◌, ℕ, zero, suc, ◌<◌, Bool, true, false, List, [], ◌∷◌, length, map, set, get_or, Option, Some, None, refl, sym, ap, ◌∙◌, subst}
use Rattle.std.specs.Prelude.{slice_get, option_map}
use Rattle.turns.specs.Run.{Got, Lost, holding}
use Rattle.wf_base.specs.declared.marks.Mark.{Mark}
use Rattle.wf_text.specs.declared.place.Place.{Place}
use Rattle.wf_text.specs.declared.numbers.MethodId.{MethodId}
use Rattle.wf_ast.specs.declared.numbers.StmtId.{StmtId}
use Rattle.wf_ast.specs.declared.typed_code.Callee.{Callee}
use Rattle.wf_ast.specs.declared.typed_code.Callee.TheVariants as callees
use Rattle.wf_ast.specs.declared.typed_nodes.TypedNodes.{TypedNodes}
use Rattle.wf_ast.specs.TypedTree.{Block, Called, Target, ValueTree, invoke, plain}
use Rattle.wf_ast.specs.TypedTrees.{call_made, mark_of, tree_of}
use Rattle.wf_ast.specs.TypedPackage.{MethodTree, PackageTree, package_of}
use Rattle.wf_ast.specs.declared.types.Ty.{Ty}
use Rattle.wf_ast.specs.Value.{Value, status_number}
use Rattle.wf_ast.specs.WellTyped.{is_coroutine, is_pure, number_of}
use Rattle.wf_meaning.specs.SourceState.{Behind, Done, Life, Object, disabled, raw, ready}
use Rattle.wf_meaning.specs.Entry.{Admission, admission, admitted, ended, refused, refusal_of, returned, zero_of}
use Rattle.wf_meaning.specs.World.{World, updated, with_object}
use Rattle.wf_meaning.specs.SourceStep.{Call, Callees, after_call, entered, invoked, receiver_of, settled, through, values_of, with_some}
use Rattle.wf_mean_exprs.specs.declared.objects.ObjectState.{ObjectState}
use Rattle.wf_mean_exprs.specs.MachineState.{object_seen, sight, slot_seen}
use Rattle.wf_mean_stmts.specs.declared.stage.Stage.{Stage}
use Rattle.wf_mean_exprs.specs.declared.values.Slot.{Slot}
use Rattle.wf_mean_stmts.specs.declared.entry.Answer.{Answer}
use Rattle.wf_mean_stmts.specs.Entries.{Admits, answer_seen}
use Rattle.wf_mean_stmts.proofs.StoringLemmas.{set_same, set_updated}
use Rattle.wf_mean_stmts.specs.Stages.{body_on, sight_on, vars_on}
use Rattle.wf_mean_flows.specs.Flows.{calls_below, run_on, site_of, went}
use Rattle.wf_mean_flows.proofs.RunLaws.{stepped}
use Rattle.wf_mean_runs.specs.declared.calls.Ran.TheVariants as rans
use Rattle.wf_mean_runs.specs.Answers.{AdmitsAmong}
use Rattle.wf_mean_runs.specs.Calls.{CallsMethod, ran_seen, tree_called, world_on}
use Rattle.wf_mean_runs.proofs.KeepLaws.{get_at}

-- What the statement of a call is.
pub call_invokes : (nodes : TypedNodes) (at : Place) (target : Target) (keep : Bool) (callee : Callee) (m : MethodId) (ts : List ValueTree) → CallsMethod callee m → call_made nodes (tree_of nodes) at target keep callee ts ≡ invoke at target keep (mark_of nodes m.0) (tree_called callee) ts
call_invokes nodes at target keep (callees.Own n) m ts h = ap (λ (k : MethodId). invoke at target keep (mark_of nodes k.0) (tree_called (callees.Own n)) ts) h
call_invokes nodes at target keep (callees.Sub x n) m ts h = ap (λ (k : MethodId). invoke at target keep (mark_of nodes k.0) (tree_called (callees.Sub x n)) ts) h
call_invokes nodes at target keep (callees.Base on sig) m ts h = absurd h

pub calls_number : (callee : Callee) (m : MethodId) → CallsMethod callee m → number_of (tree_called callee) ≡ m.0
calls_number (callees.Own n) m h = ap (λ (k : MethodId). k.0) h
calls_number (callees.Sub x n) m h = ap (λ (k : MethodId). k.0) h
calls_number (callees.Base on sig) m h = absurd h

module _ (nodes : TypedNodes) (level : ℕ) (old : Stage) (s : StmtId) (at : Place) (target : Target) (keep : Bool) (mark : Mark) (called : Called) (ts : List ValueTree) (m : ℕ) (method : MethodTree)
    (there : slice_get (package_of nodes).methods m ≡ Some method) (number : number_of called ≡ m) where
  abbrev here : Block → Block
  here rest = plain (site_of nodes s) (invoke at target keep mark called ts) rest

  starts : (done : Done) (rest : Block) (behind : Behind) → run_on nodes level old done (here rest) behind
      ≡ went (body_on nodes old) (calls_below nodes level) old.turns (invoked (body_on nodes old) (calls_below nodes level) old.turns keep mark target called ts (here rest) rest behind (vars_on nodes old))
  unfolding with_some
  starts done rest behind = stepped nodes level (body_on nodes old) old.turns done (here rest) behind (vars_on nodes old)

  -- An argument has no value that lies in its type.
  pub args_stuck : (done : Done) (rest : Block) (behind : Behind) → values_of (sight_on nodes old) method.args ts ≡ None → run_on nodes level old done (here rest) behind ≡ Lost
  unfolding with_some sight
  args_stuck done rest behind e = starts done rest behind ∙ rw (number, there, e) refl

  module _ (values : List Value) (given : values_of (sight_on nodes old) method.args ts ≡ Some values) where
    pub receiver_stuck : (done : Done) (rest : Block) (behind : Behind) → receiver_of (body_on nodes old) called (vars_on nodes old) ≡ None → run_on nodes level old done (here rest) behind ≡ Lost
    unfolding with_some sight
    receiver_stuck done rest behind e = starts done rest behind ∙ rw (number, there, given, e) refl

    pub calls_through : (object : ℕ) (done : Done) (rest : Block) (behind : Behind) → receiver_of (body_on nodes old) called (vars_on nodes old) ≡ Some object
        → run_on nodes level old done (here rest) behind
        ≡ went (body_on nodes old) (calls_below nodes level) old.turns
        (holding (through (package_of nodes) (calls_below nodes level) method called (record { object = object; method = m; args = values }) old.turns (world_on nodes old))
        (after_call (body_on nodes old) old.turns keep mark target (here rest) rest behind (vars_on nodes old).locals))
    unfolding with_some sight
    calls_through object done rest behind e = starts done rest behind ∙ rw (number, there, given, e) refl

-- The struct state in a field.
get_map : {X Y : Type 0} (f : X → Y) (xs : List X) (i : ℕ) → slice_get (map f xs) i ≡ option_map f (slice_get xs i)
get_map f [] i = refl
get_map f (x ∷ xs) zero = refl
get_map f (x ∷ xs) (suc i) = get_map f xs i

-- What a refused call answers.
pub refused_coroutine : (callee : MethodTree) (mark : Mark) (status : ℕ) → callee.mark ≡ mark → true ≡ is_coroutine mark → returned (Some (status_number status)) ≡ refusal_of callee status
refused_coroutine callee mark status e h = rw (e, sym h) refl

pub refused_other : (callee : MethodTree) (mark : Mark) (gives : Option Ty) (v : Option Slot) (status : ℕ) → callee.mark ≡ mark → callee.gives ≡ gives → false ≡ is_coroutine mark → option_map slot_seen v ≡ zero_of status gives → returned (option_map slot_seen v) ≡ refusal_of callee status
refused_other callee mark gives v status e f h is = rw (e, f, sym h, is) refl

-- What the entry table does to one of the struct states.
admits : (f : ObjectState → Object) (xs : List ObjectState) (i : ℕ) (d new : ObjectState) (result : Option ℕ) (a : Admission) → i < length xs → Admits result a (f (get_or xs i d)) (f new) → AdmitsAmong result a i (map f xs) (map f (set xs i new))
admits f xs i d new None admitted l h = set_same f xs i new d l h
admits f xs i d new (Some status) (refused given object) l h = (h.0, set_updated f (λ _. object) xs i new d l h.1)
admits f xs i d new None (refused given object) l h = absurd h
admits f xs i d new (Some status) admitted l h = absurd h

pub admits_there : (p : PackageTree) (xs : List ObjectState) (i : ℕ) (d new : ObjectState) (result : Option ℕ) (mark : Mark) (m : ℕ) (fit : Bool) (o : Object) → i < length xs → slice_get (map (object_seen p) xs) i ≡ Some o
    → Admits result (admission mark m fit (object_seen p (get_or xs i d))) (object_seen p (get_or xs i d)) (object_seen p new) → AdmitsAmong result (admission mark m fit o) i (map (object_seen p) xs) (map (object_seen p) (set xs i new))
admits_there p xs i d new result mark m fit o l there h =
    let same : Some o ≡ Some (object_seen p (get_or xs i d)) = sym there ∙ get_map (object_seen p) xs i ∙ ap (option_map (object_seen p)) (get_at xs i d l) in
    let here : o ≡ object_seen p (get_or xs i d) = cc (same) in
    let P : Object → Type 0 = λ x. AdmitsAmong result (admission mark m fit x) i (map (object_seen p) xs) (map (object_seen p) (set xs i new)) in
    subst P (sym here) (admits (object_seen p) xs i d new result (admission mark m fit (object_seen p (get_or xs i d))) l h)

-- After a body that was entered through the table.
pub settles : (nodes : TypedNodes) (old new : Stage) (callee : MethodTree) (call : Call) (mark : Mark) (m object : ℕ) (answer : Answer) → callee.mark ≡ mark → call.object ≡ object → call.method ≡ m → new.turns ≡ old.turns → new.host ≡ old.host
    → map (object_seen (package_of nodes)) new.objects.items ≡ updated (ended (package_of nodes) mark m (answer_seen answer)) object (map (object_seen (package_of nodes)) old.objects.items)
    → ran_seen nodes (rans.Answers answer) new ≡ settled (package_of nodes) callee call (ran_seen nodes (rans.Answers answer) old)
settles nodes old new callee call mark m object answer e f g turns host h = rw (e, f, g, turns, host, h) refl

-- The entry table.
module _ (nodes : TypedNodes) (calls : Callees) (method : MethodTree) (call : Call) (fit : Bool) (n : ℕ) (old new : World) (object : Object) (there : slice_get old.objects call.object ≡ Some object) (host : new.host ≡ old.host) where
  same_world : new.objects ≡ old.objects → new ≡ old
  same_world e = rw (e, host) refl

  pub enters : AdmitsAmong None (admission method.mark call.method fit object) call.object old.objects new.objects → (new ≡ old) × (entered (package_of nodes) calls method call fit n old (slice_get old.objects call.object) ≡ settled (package_of nodes) method call (calls call n old))
  enters h = by_table (admission method.mark call.method fit object) refl h
    where
      by_table : (a : Admission) → admission method.mark call.method fit object ≡ a → AdmitsAmong None a call.object old.objects new.objects
          → (new ≡ old) × (entered (package_of nodes) calls method call fit n old (slice_get old.objects call.object) ≡ settled (package_of nodes) method call (calls call n old))
      by_table (refused status o) e h = absurd h
      by_table admitted e h = (same_world h, rw (there, e) refl)

  pub refuses : (status : ℕ) → AdmitsAmong (Some status) (admission method.mark call.method fit object) call.object old.objects new.objects → entered (package_of nodes) calls method call fit n old (slice_get old.objects call.object) ≡ Got n (refusal_of method status, new)
  refuses status h = by_table (admission method.mark call.method fit object) refl h
    where
      by_table : (a : Admission) → admission method.mark call.method fit object ≡ a → AdmitsAmong (Some status) a call.object old.objects new.objects
          → entered (package_of nodes) calls method call fit n old (slice_get old.objects call.object) ≡ Got n (refusal_of method status, new)
      by_table admitted e h = absurd h
      by_table (refused given o) e h =
          let w : new ≡ with_object call.object (λ _. o) old = rw (h.1, host) refl in
          rw (there, e) (ap (λ g. Got n (refusal_of method g, with_object call.object (λ _. o) old)) (sym h.0) ∙ ap (λ x. Got n (refusal_of method status, x)) (sym w))

-- A call whose arguments don't fit is refused.
module _ (mark : Mark) (number : ℕ) (object : Object) (i : ℕ) (old new : List Object) where
  pub never_admitted : AdmitsAmong None (admission mark number false object) i old new → ⊥
  never_admitted h = by_life object.life refl
    where
      by_pure : (pure : Bool) → is_pure mark ≡ pure → object.life ≡ disabled → ⊥
      by_pure true p e = rw (e, p) at h
      by_pure false p e = rw (e, p) at h

      by_life : (life : Life) → object.life ≡ life → ⊥
      by_life raw e = rw e at h
      by_life ready e = rw e at h
      by_life disabled e = by_pure (is_pure mark) refl e
