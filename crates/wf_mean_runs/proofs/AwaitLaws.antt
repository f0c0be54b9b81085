-- Base methods as statements: only points suspend.
use Rattle.std.proofs.Common.{◌≡◌, ℕ, true, List, [], ◌∷◌, Option, Some, None, refl, ap}
use Rattle.std.specs.Prelude.{option_map, unwrap_or}
use Rattle.turns.specs.Run.{Go}
use Rattle.wf_text.specs.declared.place.Place.{Place}
use Rattle.wf_base.specs.declared.base_methods.BaseSig.{BaseSig}
use Rattle.wf_base.specs.declared.base_methods.BaseSig.TheVariants as sigs
use Rattle.wf_ast.specs.declared.typed_code.StmtNode.{StmtNode}
use Rattle.wf_ast.specs.TypedTree.{Block, Simple, Site, Target, ValueTree, Written, copy_to_slice, copy_to_writer, perform, skip_fast, write_fast}
use Rattle.wf_ast.specs.TypedTrees.{base_call, io_in, no_place, no_statement, num_in, slice_in}
use Rattle.wf_meaning.specs.SourceState.{Behind, Done}
use Rattle.wf_meaning.specs.Remaining.{is_point}
use Rattle.wf_meaning.specs.World.{Body, Vars}
use Rattle.wf_meaning.specs.SourceStep.{Callees, at_block, performed, simple_step, suspending, with_some}

-- A statement suspends only where it is a point.
abbrev pub Calm : Simple → Type 0
Calm st = (b : Body) (calls : Callees) (n : ℕ) (done : Done) (site : Site) (rest : Block) (behind : Behind) (vars : Vars) (status : ℕ) (done' : Done) (here : Block) (vars' : Vars)
    → simple_step b calls n done site st rest behind vars ≡ suspending n status done' here behind vars' → is_point st ≡ true

calm_none : Calm no_statement
unfolding with_some
calm_none b calls n done site rest behind vars status done' here vars' h = absurd (cc (h))

goes_on : (o : Option Vars) (rest : Block) (behind : Behind) (n status : ℕ) (done' : Done) (here : Block) (vars' : Vars) → with_some o (λ after. Go (at_block rest behind after)) ≡ suspending n status done' here behind vars' → ⊥
unfolding with_some
goes_on None rest behind n status done' here vars' h = absurd (cc (h))
goes_on (Some after) rest behind n status done' here vars' h = absurd (cc (h))

calm_done : (at : Place) (target : Target) (call : Written) → Calm (perform at target call)
calm_done at target call b calls n done site rest behind vars status done' here vars' h = absurd (goes_on (performed b target call vars) rest behind n status done' here vars' h)

pub calm : (at : Place) (target : Target) (on : ValueTree) (sig : BaseSig) (ts : List ValueTree) → Calm (base_call at target on sig ts)
calm at target on sigs.ReaderLength ts = calm_none
calm at target on sigs.ReaderIsClosed ts = calm_none
calm at target on sigs.ReaderPosition ts = calm_none
calm at target on (sigs.Read form) [] = λ b calls n done site rest behind vars status done' here vars' h. refl
calm at target on (sigs.Read form) (t ∷ ts) = calm_none
calm at target on sigs.Skip [] = calm_none
calm at target on sigs.Skip (t ∷ []) = λ b calls n done site rest behind vars status done' here vars' h. refl
calm at target on sigs.Skip (t ∷ u ∷ ts) = calm_none
calm at target on (sigs.Peek form) ts = calm_none
calm at target on sigs.SkipFast [] = calm_none
calm at target on sigs.SkipFast (t ∷ []) = calm_none
calm at target on sigs.SkipFast (t ∷ u ∷ []) = calm_done at target (skip_fast (io_in on) (num_in t) (num_in u))
calm at target on sigs.SkipFast (t ∷ u ∷ v ∷ ts) = calm_none
calm at target on sigs.WriterLength ts = calm_none
calm at target on sigs.WriterPosition ts = calm_none
calm at target on sigs.Write [] = calm_none
calm at target on sigs.Write (t ∷ []) = λ b calls n done site rest behind vars status done' here vars' h. refl
calm at target on sigs.Write (t ∷ u ∷ ts) = calm_none
calm at target on sigs.WriteFast [] = calm_none
calm at target on sigs.WriteFast (t ∷ []) = calm_done at target (write_fast (io_in on) (num_in t))
calm at target on sigs.WriteFast (t ∷ u ∷ ts) = calm_none
calm at target on sigs.WriterCopy [] = calm_none
calm at target on sigs.WriterCopy (t ∷ []) = calm_done at target (copy_to_writer (io_in on) (slice_in t))
calm at target on sigs.WriterCopy (t ∷ u ∷ ts) = calm_none
calm at target on (sigs.SliceCopy w) [] = calm_none
calm at target on (sigs.SliceCopy w) (t ∷ []) = calm_done at target (copy_to_slice (slice_in on) (slice_in t))
calm at target on (sigs.SliceCopy w) (t ∷ u ∷ ts) = calm_none
calm at target on (sigs.SliceLength w) ts = calm_none
calm at target on (sigs.ArrayLength w) ts = calm_none
calm at target on sigs.IsOk ts = calm_none
calm at target on sigs.IsNote ts = calm_none
calm at target on sigs.IsSuspension ts = calm_none
calm at target on sigs.IsError ts = calm_none

pub place_is : (o : Option StmtNode) (at : Place) → option_map (λ (node : StmtNode). node.at) o ≡ Some at → unwrap_or (option_map (λ (node : StmtNode). node.at) o) no_place ≡ at
place_is o at h = ap (λ p. unwrap_or p no_place) h
