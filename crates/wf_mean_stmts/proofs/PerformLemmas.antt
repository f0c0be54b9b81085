-- Base methods that write and don't suspend, step by step.
use Rattle.std.proofs.Common.{◌≡◌, ℕ, Bool, true, false, List, Option, Some, None, min, refl, sym, ap, subst}
use Rattle.turns.specs.Run.{Go}
use Rattle.wf_base.specs.BaseOps.{Buffer, put, put_count}
use Rattle.wf_ast.specs.declared.typed_nodes.TypedNodes.{TypedNodes}
use Rattle.wf_ast.specs.TypedTree.{Block, NumTree, SliceTree, Target, copy_to_slice, copy_to_writer, skip_fast, write_fast}
use Rattle.wf_ast.specs.Value.{Span, num, only_if, span_of, value}
use Rattle.wf_meaning.specs.SourceState.{Behind}
use Rattle.wf_meaning.specs.World.{Vars, put_value}
use Rattle.wf_meaning.specs.SourceStep.{are_bytes, at_block, change_buffer, elements_of, io_of, performed, skipped_fast, takes_all, with_some, written_fast}
use Rattle.wf_mean_exprs.specs.MachineState.{sight}
use Rattle.wf_mean_stmts.specs.declared.stage.Stage.{Stage}
use Rattle.wf_mean_stmts.specs.Copies.{PutsOut, copied_if}
use Rattle.wf_mean_stmts.specs.Doings.{did_if, did_steps}
use Rattle.wf_mean_stmts.specs.Stages.{Comes, body_on, sight_on, vars_on}

came : (o : Option Vars) (new : Vars) → Comes true o new → o ≡ Some new
came (Some left) new h = ap Some (sym h)
came None new h = absurd h

record Copied (test : Bool) (it mid : Vars) : Type 0 where
  fits : test ≡ true
  is : mid ≡ it

copied_true : (test : Bool) (it mid : Vars) → Comes true (only_if test (Some it)) mid → Copied test it mid
copied_true true it mid h = record { fits = refl; is = h }
copied_true false it mid h = absurd h

copied_false : (test : Bool) (it mid : Vars) → Comes false (only_if test (Some it)) mid → test ≡ false
copied_false true it mid h = absurd h
copied_false false it mid h = refl

record Written (bytes : Bool) (xs : List ℕ) (k : ℕ) (buffer : Buffer) (old new : Vars) (n : ℕ) : Type 0 where
  fits : bytes ≡ true
  count : n ≡ put_count xs buffer
  is : new ≡ change_buffer k (put xs) old

out_true : (xs : List ℕ) (k : ℕ) (buffer : Buffer) (bytes : Bool) (old new : Vars) (n : ℕ) → PutsOut (Some n) bytes xs k buffer old new → Written bytes xs k buffer old new n
out_true xs k buffer true old new n h = record { fits = refl; count = h.0; is = h.1 }
out_true xs k buffer false old new n h = absurd h

out_false : (xs : List ℕ) (k : ℕ) (buffer : Buffer) (old new : Vars) (bytes : Bool) → PutsOut None bytes xs k buffer old new → bytes ≡ false
out_false xs k buffer old new true h = absurd h
out_false xs k buffer old new false h = refl

module _ (nodes : TypedNodes) (stage : Stage) (target : Target) where
  module _ (to source : SliceTree) where
    pub to_slice_goes : (r : Bool) (t s : Span) (mid new : Vars) → Some t ≡ span_of (sight_on nodes stage) to → Some s ≡ span_of (sight_on nodes stage) source
        → Comes true (copied_if (takes_all (vars_on nodes stage) t (elements_of (vars_on nodes stage) s)) t s (vars_on nodes stage)) mid
        → Comes r (put_value (body_on nodes stage) target (num (min t.count s.count)) mid) new → Comes r (performed (body_on nodes stage) target (copy_to_slice to source) (vars_on nodes stage)) new
    unfolding sight
    to_slice_goes r t s mid new e f copied h =
        let k = copied_true _ _ mid copied in
        let P : Vars → Type 0 = λ x. Comes r (put_value (body_on nodes stage) target (num (min t.count s.count)) x) new in
        rw (sym e, sym f, k.fits) (subst P k.is h)

    pub to_slice_stuck : (t s : Span) (mid new : Vars) → Some t ≡ span_of (sight_on nodes stage) to → Some s ≡ span_of (sight_on nodes stage) source
        → Comes false (copied_if (takes_all (vars_on nodes stage) t (elements_of (vars_on nodes stage) s)) t s (vars_on nodes stage)) mid
        → Comes false (performed (body_on nodes stage) target (copy_to_slice to source) (vars_on nodes stage)) new
    unfolding sight
    to_slice_stuck t s mid new e f copied = rw (sym e, sym f, copied_false _ _ mid copied) tt

    pub no_source : (t : Span) (new : Vars) → Some t ≡ span_of (sight_on nodes stage) to → None ≡ span_of (sight_on nodes stage) source → Comes false (performed (body_on nodes stage) target (copy_to_slice to source) (vars_on nodes stage)) new
    unfolding sight
    no_source t new e f = rw (sym e, sym f) tt

    pub no_target : (new : Vars) → None ≡ span_of (sight_on nodes stage) to → Comes false (performed (body_on nodes stage) target (copy_to_slice to source) (vars_on nodes stage)) new
    unfolding sight
    no_target new e = rw (sym e) tt

  module _ (a k : ℕ) (buffer : Buffer) (io : io_of (body_on nodes stage) a (vars_on nodes stage) ≡ Some (k, buffer)) where
    pub to_writer_goes : (source : SliceTree) (r : Bool) (s : Span) (n : ℕ) (mid new : Vars) → Some s ≡ span_of (sight_on nodes stage) source
        → PutsOut (Some n) (are_bytes (elements_of (vars_on nodes stage) s)) (elements_of (vars_on nodes stage) s) k buffer (vars_on nodes stage) mid
        → Comes r (put_value (body_on nodes stage) target (num n) mid) new → Comes r (performed (body_on nodes stage) target (copy_to_writer a source) (vars_on nodes stage)) new
    unfolding sight
    to_writer_goes source r s n mid new e puts h =
        let j = out_true _ _ _ _ _ _ n puts in
        let P : Vars → Type 0 = λ x. Comes r (put_value (body_on nodes stage) target (num n) x) new in
        let Q : ℕ → Type 0 = λ m. Comes r (put_value (body_on nodes stage) target (num m) (change_buffer k (put (elements_of (vars_on nodes stage) s)) (vars_on nodes stage))) new in
        rw (io, sym e, j.fits) (subst Q j.count (subst P j.is h))

    pub to_writer_stuck : (source : SliceTree) (s : Span) (mid new : Vars) → Some s ≡ span_of (sight_on nodes stage) source
        → PutsOut None (are_bytes (elements_of (vars_on nodes stage) s)) (elements_of (vars_on nodes stage) s) k buffer (vars_on nodes stage) mid
        → Comes false (performed (body_on nodes stage) target (copy_to_writer a source) (vars_on nodes stage)) new
    unfolding sight
    to_writer_stuck source s mid new e puts = rw (io, sym e, out_false _ _ _ _ _ _ puts) tt

    pub to_writer_absent : (source : SliceTree) (new : Vars) → None ≡ span_of (sight_on nodes stage) source → Comes false (performed (body_on nodes stage) target (copy_to_writer a source) (vars_on nodes stage)) new
    unfolding sight
    to_writer_absent source new e = rw (io, sym e) tt

    pub skip_goes : (actual worst : NumTree) (r : Bool) (m n : ℕ) (new : Vars) → Some m ≡ value (sight_on nodes stage) actual → Some n ≡ value (sight_on nodes stage) worst
        → Comes r (skipped_fast k buffer m n (vars_on nodes stage)) new → Comes r (performed (body_on nodes stage) target (skip_fast a actual worst) (vars_on nodes stage)) new
    unfolding sight
    skip_goes actual worst r m n new e f h = rw (io, sym e, sym f) h

    pub no_worst : (actual worst : NumTree) (m : ℕ) (new : Vars) → Some m ≡ value (sight_on nodes stage) actual → None ≡ value (sight_on nodes stage) worst → Comes false (performed (body_on nodes stage) target (skip_fast a actual worst) (vars_on nodes stage)) new
    unfolding sight
    no_worst actual worst m new e f = rw (io, sym e, sym f) tt

    pub no_actual : (actual worst : NumTree) (new : Vars) → None ≡ value (sight_on nodes stage) actual → Comes false (performed (body_on nodes stage) target (skip_fast a actual worst) (vars_on nodes stage)) new
    unfolding sight
    no_actual actual worst new e = rw (io, sym e) tt

    pub write_goes : (byte : NumTree) (r : Bool) (n : ℕ) (new : Vars) → Some n ≡ value (sight_on nodes stage) byte
        → Comes r (written_fast k buffer n (vars_on nodes stage)) new → Comes r (performed (body_on nodes stage) target (write_fast a byte) (vars_on nodes stage)) new
    unfolding sight
    write_goes byte r n new e h = rw (io, sym e) h

    pub no_byte : (byte : NumTree) (new : Vars) → None ≡ value (sight_on nodes stage) byte → Comes false (performed (body_on nodes stage) target (write_fast a byte) (vars_on nodes stage)) new
    unfolding sight
    no_byte byte new e = rw (io, sym e) tt

  module _ (a : ℕ) (none : io_of (body_on nodes stage) a (vars_on nodes stage) ≡ None) (new : Vars) where
    pub no_io_skip : (actual worst : NumTree) → Comes false (performed (body_on nodes stage) target (skip_fast a actual worst) (vars_on nodes stage)) new
    no_io_skip actual worst = rw none tt

    pub no_io_write : (byte : NumTree) → Comes false (performed (body_on nodes stage) target (write_fast a byte) (vars_on nodes stage)) new
    no_io_write byte = rw none tt

    pub no_io_copy : (source : SliceTree) → Comes false (performed (body_on nodes stage) target (copy_to_writer a source) (vars_on nodes stage)) new
    no_io_copy source = rw none tt

-- What a call came to, as steps.
pub did_perform : (r : Bool) (o : Option Vars) (new : Vars) (n : ℕ) (here rest : Block) (behind : Behind) → Comes r o new → with_some o (λ after. Go (at_block rest behind after)) ≡ did_steps n (did_if r) here rest behind new
unfolding with_some
did_perform true (Some left) new n here rest behind h = rw h refl
did_perform false None new n here rest behind h = refl
did_perform true None new n here rest behind h = absurd h
did_perform false (Some left) new n here rest behind h = absurd h
