-- Base calls that may suspend, step by step.
use Rattle.std.proofs.Common.{◌≡◌, ℕ, ◌<◌, ◌≤◌, true, false, List, [], ◌∷◌, length, Option, Some, None, refl, sym, ap, ◌∙◌}
use Rattle.std.specs.Prelude.{option_and_then}
use Rattle.std.proofs.lemmas.Option.{slice_get_past}
use Rattle.turns.specs.Run.{Go, Fail}
use Rattle.wf_base.specs.BaseOps.{Buffer, appended, has_room, left_to_skip, skipped}
use Rattle.wf_base.specs.BaseTable.{is_whole, read_value}
use Rattle.wf_base.specs.declared.base_methods.ReadForm.{ReadForm}
use Rattle.wf_ast.specs.declared.typed_nodes.TypedNodes.{TypedNodes}
use Rattle.wf_ast.specs.TypedTree.{Block, NumTree, Target, Awaited, skip, write}
use Rattle.wf_ast.specs.Value.{num, value}
use Rattle.wf_meaning.specs.SourceState.{Behind, Done, has_bytes, to_write}
use Rattle.wf_meaning.specs.World.{Body, Vars, put_value, updated}
use Rattle.wf_meaning.specs.SourceStep.{Steps, at_block, awaited, below, change_buffer, either, io_of, kept_byte, kept_count, read_on, skip_on, suspending, with_some, write_on}
use Rattle.wf_mean_exprs.specs.MachineState.{sight}
use Rattle.wf_mean_stmts.specs.declared.stage.Stage.{Stage}
use Rattle.wf_mean_stmts.specs.Stages.{Comes, body_on, sight_on, vars_on}
use Rattle.wf_mean_stmts.specs.Doings.{FindsIo}
use Rattle.wf_mean_stmts.proofs.StoringLemmas.{item_there}

module _ (nodes : TypedNodes) (stage : Stage) (a : ℕ) where
  pub io_found : (k : ℕ) → Some k ≡ (sight_on nodes stage).buffer_number a → k < length stage.host.bufs → FindsIo stage.host.bufs (Some k) (io_of (body_on nodes stage) a (vars_on nodes stage))
  unfolding sight
  io_found k e h = let it = item_there stage.host.bufs k h in (it.0, it.1, rw (sym e, it.1) refl)

  pub io_past : (k : ℕ) → Some k ≡ (sight_on nodes stage).buffer_number a → length stage.host.bufs ≤ k → io_of (body_on nodes stage) a (vars_on nodes stage) ≡ None
  unfolding sight
  io_past k e h = rw (sym e, slice_get_past stage.host.bufs k h) refl

  pub io_absent : None ≡ (sight_on nodes stage).buffer_number a → io_of (body_on nodes stage) a (vars_on nodes stage) ≡ None
  unfolding sight
  io_absent e = rw (sym e) refl

  module _ (n : ℕ) (target : Target) (here rest : Block) (behind : Behind) (done : Done) (k : ℕ) (buffer : Buffer) (io : io_of (body_on nodes stage) a (vars_on nodes stage) ≡ Some (k, buffer)) where
    pub io_await : (call : Awaited) (s : Steps) → awaited (body_on nodes stage) n target k buffer call done here rest behind (vars_on nodes stage) ≡ s
        → with_some (io_of (body_on nodes stage) a (vars_on nodes stage)) (λ io. awaited (body_on nodes stage) n target io.0 io.1 call done here rest behind (vars_on nodes stage)) ≡ s
    unfolding with_some
    io_await call s e = rw io e

    pub skip_await : (count : NumTree) (left : ℕ) (s : Steps) → Some left ≡ kept_count done (option_and_then (below 32) (value (sight_on nodes stage) count))
        → skip_on n (left_to_skip left buffer) here rest behind (change_buffer k (skipped left) (vars_on nodes stage)) ≡ s
        → with_some (io_of (body_on nodes stage) a (vars_on nodes stage)) (λ io. awaited (body_on nodes stage) n target io.0 io.1 (skip count) done here rest behind (vars_on nodes stage)) ≡ s
    unfolding with_some sight
    skip_await count left s f e = rw (io, sym f) e

    pub no_skip : (count : NumTree) → None ≡ kept_count done (option_and_then (below 32) (value (sight_on nodes stage) count))
        → with_some (io_of (body_on nodes stage) a (vars_on nodes stage)) (λ io. awaited (body_on nodes stage) n target io.0 io.1 (skip count) done here rest behind (vars_on nodes stage)) ≡ Fail
    unfolding with_some sight
    no_skip count f = rw (io, sym f) refl

    pub write_await : (it : NumTree) (byte : ℕ) (s : Steps) → Some byte ≡ kept_byte done (option_and_then (below 8) (value (sight_on nodes stage) it))
        → write_on n k byte buffer here rest behind (vars_on nodes stage) ≡ s
        → with_some (io_of (body_on nodes stage) a (vars_on nodes stage)) (λ io. awaited (body_on nodes stage) n target io.0 io.1 (write it) done here rest behind (vars_on nodes stage)) ≡ s
    unfolding with_some sight
    write_await it byte s f e = rw (io, sym f) e

    pub no_write : (it : NumTree) → None ≡ kept_byte done (option_and_then (below 8) (value (sight_on nodes stage) it))
        → with_some (io_of (body_on nodes stage) a (vars_on nodes stage)) (λ io. awaited (body_on nodes stage) n target io.0 io.1 (write it) done here rest behind (vars_on nodes stage)) ≡ Fail
    unfolding with_some sight
    no_write it f = rw (io, sym f) refl

-- No buffer is there.
pub no_io : {X : Type 0} (o : Option X) (go : X → Steps) → o ≡ None → with_some o go ≡ Fail
unfolding with_some
no_io o go e = rw e refl

module _ (nodes : TypedNodes) (stage : Stage) (bufs : List Buffer) (n k byte : ℕ) (buffer : Buffer) (here rest : Block) (behind : Behind) where
  abbrev with_bufs : Stage
  with_bufs = record { frame = stage.frame; objects = stage.objects; host = record { bufs = bufs; arrays = stage.host.arrays }; turns = stage.turns }

  pub wrote : has_room buffer ≡ true → bufs ≡ updated (appended (byte ∷ [])) k stage.host.bufs → write_on n k byte buffer here rest behind (vars_on nodes stage) ≡ Go (at_block rest behind (vars_on nodes with_bufs))
  unfolding either
  wrote r e = rw (r, e) refl

  pub no_room : has_room buffer ≡ false → bufs ≡ stage.host.bufs → write_on n k byte buffer here rest behind (vars_on nodes stage) ≡ suspending n 2 (to_write byte) here behind (vars_on nodes with_bufs)
  unfolding either
  no_room r e = rw (r, e) refl

-- What goes to a target.
came : (o : Option Vars) (new : Vars) → Comes true o new → o ≡ Some new
came (Some left) new h = ap Some (sym h)
came None new h = absurd h

lost : (o : Option Vars) (new : Vars) → Comes false o new → o ≡ None
lost (Some left) new h = absurd h
lost None new h = refl

-- A read with all of its bytes, and one that lacks some.
module _ (b b' : Body) (n : ℕ) (target : Target) (form : ReadForm) (bytes bytes' : List ℕ) (here rest : Block) (behind : Behind) (vars vars' : Vars) (same : bytes' ≡ bytes) (body : b' ≡ b) (left : vars' ≡ vars) where
  pub read_short : is_whole form bytes' ≡ false → read_on b n target form bytes here rest behind vars ≡ suspending n 1 (has_bytes bytes') here behind vars'
  unfolding either
  read_short w = rw (same, left, ap (is_whole form) (sym same) ∙ w) refl

  module _ (v : ℕ) (new : Vars) (whole : is_whole form bytes' ≡ true) (value : v ≡ read_value form bytes') where
    put_same : put_value b' target (num v) vars' ≡ put_value b target (num (read_value form bytes)) vars
    put_same = rw (body, left, value, same) refl

    pub read_put : Comes true (put_value b' target (num v) vars') new → read_on b n target form bytes here rest behind vars ≡ Go (at_block rest behind new)
    unfolding either with_some
    read_put h = rw (ap (is_whole form) (sym same) ∙ whole, sym put_same ∙ came _ new h) refl

    pub read_stuck : Comes false (put_value b' target (num v) vars') new → read_on b n target form bytes here rest behind vars ≡ Fail
    unfolding either with_some
    read_stuck h = rw (ap (is_whole form) (sym same) ∙ whole, sym put_same ∙ lost _ new h) refl
