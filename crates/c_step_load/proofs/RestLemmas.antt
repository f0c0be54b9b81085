-- What a run asks of the code and the frames of a program.
use Rattle.std.proofs.Common.{◌≡◌, ℕ, suc, ◌+◌, ◌<◌, ◌≤◌, Bool, true, false, nat_lt, List, [], ◌∷◌, ◌++◌, length, Option, Some, None, refl, ap, ◌∙◌, arith, ltb-true, ltb-false}
use Rattle.std.specs.Prelude.{slice_get}
use Rattle.std.specs.Option.{option_map_or}
use Rattle.c_text.proofs.Arena.{slice_get-front, slice_get-seam}
use Rattle.c_meaning.specs.CTypes.{Function}
use Rattle.c_meaning.specs.CCall.{Program}
use Rattle.c_step_frames.specs.Frames.{FrameView}
use Rattle.c_step_run.specs.declared.code.Func.{Func}
use Rattle.c_step_run.specs.Coding.{CodeView, AreCoded, rank_at, inline_length, frame_of, args_of}
use Rattle.c_step_run.specs.Ready.{RestBelow, need}
use Rattle.c_step_run.specs.Resting.{Rests}
use Rattle.c_step_program.specs.Programs.{AreApart, code_of, frames_of, all_args, inline_lengths}
use Rattle.c_step_program.proofs.Coded.{as_many_functions, as_many_frames, as_many_args, rank_most, ranks_rise, inline_lengths_within, program_coded}
use Rattle.c_step_load.specs.Programs.{IsAtRest}

-- A frame more.
one_rests : (frames : List FrameView) (it : FrameView) (n : ℕ) → length frames ≡ n → it.rests ≡ true → RestBelow n frames → RestBelow (suc n) (frames ++ it ∷ [])
one_rests frames it n long rests below k within = by (nat_lt k n) refl
  where
    by : (b : Bool) → nat_lt k n ≡ b → Rests (frames ++ it ∷ []) k
    by true t =
        let less : k < n = ltb-true k n t in
        let r : Rests frames k = below k less in
        (r.0, slice_get-front frames (it ∷ []) k (omega (arith, less, long)) ∙ r.1, r.2)
    by false t =
        let past : n ≤ k = ltb-false k n t in
        let last : k ≡ length frames = omega (arith, past, within, long) in
        (it, ap (slice_get (frames ++ it ∷ [])) last ∙ slice_get-seam frames it [], rests)

frames_rest : (fs : List Function) → RestBelow (length fs) (frames_of fs)
frames_rest [] k within = absurd (omega (arith, within))
frames_rest (f ∷ fs) k within = one_rests (frames_of fs) (frame_of f) (length fs) (as_many_frames fs) refl (frames_rest fs) k within

args_rest : (fs : List Function) → RestBelow (length fs) (all_args fs)
args_rest [] k within = absurd (omega (arith, within))
args_rest (f ∷ fs) k within = one_rests (all_args fs) (args_of f) (length fs) (as_many_args fs) refl (args_rest fs) k within

-- The values of expressions.
rank_within : (p : Program) (fs : List Function) (own : ℕ) → rank_at (code_of p fs).functions own ≤ inline_lengths (code_of p fs).functions
rank_within p fs own = by (slice_get (code_of p fs).functions own) refl
  where
    by : (o : Option Func) → slice_get (code_of p fs).functions own ≡ o → rank_at (code_of p fs).functions own ≤ inline_lengths (code_of p fs).functions
    by None e =
        let zero_rank : rank_at (code_of p fs).functions own ≡ 0 = ap (λ (o : Option Func). option_map_or (λ f. f.rank) o 0) e in
        omega (arith, zero_rank)
    by (Some x) e =
        let rank : rank_at (code_of p fs).functions own ≡ x.rank = ap (λ (o : Option Func). option_map_or (λ f. f.rank) o 0) e in
        let most : x.rank + inline_length x.inline ≤ inline_lengths (code_of p fs).functions = rank_most p fs own x e in
        omega (arith, rank, most)

need_within : (p : Program) (fs : List Function) (own : ℕ) → need (code_of p fs) own ≤ inline_lengths (code_of p fs).functions + length (code_of p fs).text.exprs
need_within p fs own = omega (arith, rank_within p fs own)

pub at_rest : (p : Program) (code : CodeView) (frames args : List FrameView) (values : ℕ) → code ≡ code_of p p.functions → frames ≡ frames_of p.functions → args ≡ all_args p.functions → values ≡ inline_lengths code.functions + length code.text.exprs → IsAtRest code frames args values
at_rest p code frames args values c f a v =
    let long : length code.functions ≡ length p.functions = ap (λ (x : CodeView). length x.functions) c ∙ as_many_functions p p.functions in
    let room : values ≡ inline_lengths (code_of p p.functions).functions + length (code_of p p.functions).text.exprs = v ∙ ap (λ (x : CodeView). inline_lengths x.functions + length x.text.exprs) c in
    let within : values ≤ length (code_of p p.functions).text.exprs + length (code_of p p.functions).text.exprs = omega (arith, room, inline_lengths_within p p.functions) in
    record {
      ranked = rw c (ranks_rise p p.functions);
      frames_rest = rw (long, f) (frames_rest p.functions);
      args_rest = rw (long, a) (args_rest p.functions);
      enough = λ own. rw (c, room) (need_within p p.functions own);
      linear = rw c within;
    }

pub as_many : (p : Program) (code : CodeView) → code ≡ code_of p p.functions → length code.functions ≡ length p.functions
as_many p code c = ap (λ (x : CodeView). length x.functions) c ∙ as_many_functions p p.functions

-- The functions stand in the code.
pub coded : (p : Program) (code : CodeView) (frames args : List FrameView) → AreApart p.functions → code ≡ code_of p p.functions → frames ≡ frames_of p.functions → args ≡ all_args p.functions → AreCoded code frames args p p.functions
coded p code frames args h c f a = rw (c, f, a) (program_coded p h)
