-- Room for the calls in a function's expressions, and frames that are put back.
use Rattle.std.proofs.Common.{◌≡◌, ℕ, zero, suc, ◌+◌, ◌-◌, ◌<◌, ◌≤◌, List, [], ◌∷◌, length, Option, Some, refl, sym, ap, ◌∙◌, arith, drop, length-take}
use Rattle.std.specs.Prelude.{slice_get, slice_set, slice_range}
use Rattle.std.specs.Option.{option_map_or}
use Rattle.c_meaning.proofs.Stores.{get_set_other}
use Rattle.c_mem.specs.declared.mem.Mem.{Mem}
use Rattle.c_mem.specs.MemoryViews.{HasRoom}
use Rattle.c_step_text.specs.Flat.{code_in}
use Rattle.c_step_frames.specs.Frames.{FrameView}
use Rattle.c_step_run.specs.declared.code.Inline.{Inline}
use Rattle.c_step_run.specs.declared.code.Func.{Func}
use Rattle.c_step_run.specs.Coding.{CodeView, IsRanked, rank_at, inline_length}
use Rattle.c_step_run.specs.Ready.{RestBelow, need}

pub record There {A : Type 0} (xs : List A) (i : ℕ) : Type 0 where
  pub it : A
  pub is : slice_get xs i ≡ Some it

pub there : {A : Type 0} (xs : List A) (i : ℕ) → i < length xs → There xs i
there [] i h = absurd (omega (arith, h))
there (x ∷ xs) zero h = record { it = x; is = refl }
there (x ∷ xs) (suc i) h = let r : There xs i = there xs i (omega (arith, h)) in record { it = r.it; is = r.is }

pub rank_is : (fs : List Func) (i : ℕ) (f : Func) → slice_get fs i ≡ Some f → rank_at fs i ≡ f.rank
rank_is fs i f e = ap (λ (o : Option Func). option_map_or (λ g. g.rank) o 0) e

-- A function before it has no greater rank, and one that may stand in an expression one that is smaller by its instructions.
pub ranks_below : (fs : List Func) (i j : ℕ) (f : Func) → IsRanked fs → i < j → j < length fs → slice_get fs i ≡ Some f → f.rank + inline_length f.inline ≤ rank_at fs j
ranks_below fs i j f ranked below within e =
    let r : There fs j = there fs j within in
    omega (arith, ranked i j f r.it below e r.is, rank_is fs j r.it r.is)

-- A part of a list has no more than its ends tell.
range_within : {A : Type 0} (xs : List A) (from to : ℕ) → length (slice_range xs from to) ≤ to - from
range_within xs from to = omega (arith, length-take (to - from) (drop from xs))

-- The value of a function in an expression, with the calls in it, needs no more than a call from there has room for.
pub inner_need : (c : CodeView) (i j : ℕ) (f : Func) (it : Inline) → IsRanked c.functions → i < j → j < length c.functions → slice_get c.functions i ≡ Some f → f.inline ≡ Some it
    → rank_at c.functions i + length (code_in c.text it.value) ≤ rank_at c.functions j
inner_need c i j f it ranked below within e q =
    let a : f.rank + inline_length f.inline ≤ rank_at c.functions j = ranks_below c.functions i j f ranked below within e in
    let b : inline_length f.inline ≡ it.value.to - it.value.from = ap inline_length q in
    omega (arith, a, b, rank_is c.functions i f e, range_within c.text.exprs it.value.from it.value.to)

pub callee_need : (c : CodeView) (i j : ℕ) → IsRanked c.functions → i < j → j < length c.functions → need c i ≤ need c j
callee_need c i j ranked below within =
    let r : There c.functions i = there c.functions i (omega (arith, below, within)) in
    let a : r.it.rank + inline_length r.it.inline ≤ rank_at c.functions j = ranks_below c.functions i j r.it ranked below within r.is in
    omega (arith, a, rank_is c.functions i r.it r.is)

-- Room for fewer objects.
pub fewer_objects : (m : Mem) (more less : ℕ) → less ≤ more → HasRoom m more → HasRoom m less
fewer_objects m more less h room = (omega (arith, h, room.0), omega (arith, h, room.1))

-- A frame that was taken is put back.
pub put_back : {A : Type 0} (xs : List A) (i : ℕ) (x y : A) → slice_get xs i ≡ Some x → slice_set (slice_set xs i y) i x ≡ xs
put_back [] i x y e = refl
put_back (z ∷ zs) zero x y e = let s : z ≡ x = cc (e) in ap (λ w. w ∷ zs) (sym s)
put_back (z ∷ zs) (suc i) x y e = ap (λ ws. z ∷ ws) (put_back zs i x y e)

pub others_stay : {A : Type 0} (xs : List A) (i j : ℕ) (x : A) → j < i → slice_get (slice_set xs i x) j ≡ slice_get xs j
others_stay xs i j x h = get_set_other xs i j x (λ e. absurd (omega (arith, e, h)))

pub rest_below : (own k : ℕ) (frames : List FrameView) (f : FrameView) → k ≤ own → RestBelow own frames → RestBelow k (slice_set frames k f)
rest_below own k frames f h rest = λ j below.
    let r = rest j (omega (arith, below, h)) in
    (r.0, others_stay frames k j f below ∙ r.1, r.2)

pub rest_fewer : (own k : ℕ) (frames : List FrameView) → k ≤ own → RestBelow own frames → RestBelow k frames
rest_fewer own k frames h rest = λ j below. rest j (omega (arith, below, h))
