-- Calls of base methods.
use Rattle.std.proofs.Common.{◌≡◌, ℕ, ◌≤◌, List, [], ◌∷◌, length, get_or, refl, arith}
use Rattle.turns.specs.Run.{Fail}
use Rattle.wf_text.specs.declared.place.Place.{Place}
use Rattle.wf_base.specs.declared.base_methods.BaseSig.{BaseSig}
use Rattle.wf_base.specs.declared.base_methods.BaseSig.TheVariants as sigs
use Rattle.wf_ast.specs.TypedTree.{Block, Simple, Site, Target, ValueTree}
use Rattle.wf_ast.specs.TypedTrees.{base_call, no_statement}
use Rattle.wf_meaning.specs.SourceState.{Behind, Done}
use Rattle.wf_meaning.specs.World.{Body, Vars}
use Rattle.wf_meaning.specs.SourceStep.{Callees, simple_step, with_some}

many : (at : Place) (target : Target) (on : ValueTree) (sig : BaseSig) (t u v : ValueTree) (ts : List ValueTree) → base_call at target on sig (t ∷ u ∷ v ∷ ts) ≡ no_statement
many at target on sigs.ReaderLength t u v ts = refl
many at target on sigs.ReaderIsClosed t u v ts = refl
many at target on sigs.ReaderPosition t u v ts = refl
many at target on (sigs.Read form) t u v ts = refl
many at target on sigs.Skip t u v ts = refl
many at target on (sigs.Peek form) t u v ts = refl
many at target on sigs.SkipFast t u v ts = refl
many at target on sigs.WriterLength t u v ts = refl
many at target on sigs.WriterPosition t u v ts = refl
many at target on sigs.Write t u v ts = refl
many at target on sigs.WriteFast t u v ts = refl
many at target on sigs.WriterCopy t u v ts = refl
many at target on (sigs.SliceCopy w) t u v ts = refl
many at target on (sigs.SliceLength w) t u v ts = refl
many at target on (sigs.ArrayLength w) t u v ts = refl
many at target on sigs.IsOk t u v ts = refl
many at target on sigs.IsNote t u v ts = refl
many at target on sigs.IsSuspension t u v ts = refl
many at target on sigs.IsError t u v ts = refl

pub too_many : (at : Place) (target : Target) (on : ValueTree) (sig : BaseSig) (ts : List ValueTree) → 3 ≤ length ts → base_call at target on sig ts ≡ no_statement
too_many at target on sig [] h = absurd (omega (arith, h))
too_many at target on sig (t ∷ []) h = absurd (omega (arith, h))
too_many at target on sig (t ∷ u ∷ []) h = absurd (omega (arith, h))
too_many at target on sig (t ∷ u ∷ v ∷ ts) h = many at target on sig t u v ts

pub one_item : {X : Type 0} (xs : List X) (d : X) → length xs ≡ 1 → xs ≡ get_or xs 0 d ∷ []
one_item [] d h = absurd (omega (arith, h))
one_item (x ∷ []) d h = refl
one_item (x ∷ y ∷ xs) d h = absurd (omega (arith, h))

pub two_items : {X : Type 0} (xs : List X) (d e : X) → length xs ≡ 2 → xs ≡ get_or xs 0 d ∷ get_or xs 1 e ∷ []
two_items [] d e h = absurd (omega (arith, h))
two_items (x ∷ []) d e h = absurd (omega (arith, h))
two_items (x ∷ y ∷ []) d e h = refl
two_items (x ∷ y ∷ z ∷ xs) d e h = absurd (omega (arith, h))

-- What is no statement is stuck.
pub no_call : (b : Body) (calls : Callees) (n : ℕ) (done : Done) (site : Site) (s : Simple) (rest : Block) (behind : Behind) (vars : Vars) → s ≡ no_statement → simple_step b calls n done site s rest behind vars ≡ Fail
unfolding with_some
no_call b calls n done site s rest behind vars e = rw e refl
