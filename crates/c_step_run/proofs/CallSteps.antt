-- What a call in an expression needs, and what it leaves.
use Rattle.std.proofs.Common.{◌≡◌, ℕ, zero, suc, ◌+◌, ◌≤◌, Bool, true, false, List, [], ◌∷◌, length, Some, sym, ap, ◌∙◌, subst, arith, length-append, length-drop}
use Rattle.std.specs.Prelude.{slice_get, slice_set}
use Rattle.c_meaning.specs.declared.values.CValue.{CValue}
use Rattle.c_meaning.specs.CMemory.{Memory}
use Rattle.c_mem.proofs.Stored.{put_back}
use Rattle.c_mem.specs.MemoryViews.{HasRoom}
use Rattle.c_mem.specs.declared.mem.Mem.{Mem}
use Rattle.c_step_frames.specs.Frames.{FrameView, Enters}
use Rattle.c_step_run.specs.Meaning.{OnTrue}
use Rattle.c_step_run.specs.Resting.{EndsInCall}
use Rattle.c_step_run.proofs.Objects.{object_shape_is}
use Rattle.c_step_run.proofs.Rooms.{fewer_objects}
use Rattle.c_step_run.proofs.Rooms as rooms
use Rattle.c_meaning.proofs.Stores.{get_set_same}
use Rattle.std.proofs.lemmas.Option.{slice_get_within}

-- A frame that rests as it was.
resting : (f : FrameView) → f.rests ≡ true → record f { rests = true } ≡ f
resting f e = ap (λ (b : Bool). record f { rests = b }) (sym e)

pub stays_put : (frames : List FrameView) (k : ℕ) (f : FrameView) → slice_get frames k ≡ Some f → f.rests ≡ true → slice_set frames k (record f { rests = true }) ≡ frames
stays_put frames k f e h = put_back frames k (record f { rests = true }) (e ∙ ap Some (sym (resting f h)))

pub comes_back : (frames now : List FrameView) (k : ℕ) (f : FrameView) (left : List FrameView) → slice_get frames k ≡ Some f → f.rests ≡ true → now ≡ slice_set frames k (record f { rests = false })
    → left ≡ slice_set now k (record f { rests = true }) → left ≡ frames
comes_back frames now k f left e h n l =
    l ∙ (ap (λ (fs : List FrameView). slice_set fs k (record f { rests = true })) n
    ∙ rooms.put_back frames k (record f { rests = true }) (record f { rests = false }) (e ∙ ap Some (sym (resting f h))))

pub taken_is : (frames now : List FrameView) (k : ℕ) (f : FrameView) → slice_get frames k ≡ Some f → now ≡ slice_set frames k (record f { rests = false }) → slice_get now k ≡ Some (record f { rests = false })
taken_is frames now k f e n = ap (λ (fs : List FrameView). slice_get fs k) n ∙ get_set_same frames k (record f { rests = false }) (slice_get_within frames k f e)

-- The memory and the stack after the entry of a call.
pub stack_below : (f : FrameView) (m now : Memory) (stack left : List CValue) → Enters f m stack true now left → length left ≤ length stack
stack_below f m now stack left h = omega (arith, ap length h.3, length-drop (length f.params) stack)

pub one_more : (f : FrameView) (m now : Memory) (stack left : List CValue) (n : ℕ) → Enters f m stack true now left → n ≡ length m → n + 1 ≡ length now
one_more f m now stack left n h e = omega (arith, e, ap length h.2, length-append m (h.0 ∷ []))

pub ends_in_call : (f : FrameView) (m now after : Memory) (stack left : List CValue) (frames : List FrameView) (k : ℕ) → Enters f m stack true now left → after ≡ now → slice_get frames k ≡ Some (record f { rests = false }) → EndsInCall frames k after
ends_in_call f m now after stack left frames k h same e =
    (record f { rests = false }, e, record { front = m; last = h.0; is = same ∙ h.2; shape = object_shape_is f.params f.locals _ h.0 h.1 })

-- Room that is as before.
pub room_stays : (m now : Mem) (more : ℕ) → now ≡ m → HasRoom m more → HasRoom now more
room_stays m now more e h = subst (λ (x : Mem). HasRoom x more) (sym e) h

pub room_back : (m entered left now : Mem) → ((k : ℕ) → HasRoom m (k + 1) → HasRoom entered k) → ((k : ℕ) → HasRoom entered k → HasRoom left k) → ((k : ℕ) → HasRoom left k → HasRoom now (k + 1))
    → HasRoom m 1 → (more : ℕ) → HasRoom m more → HasRoom now more
room_back m entered left now enters keeps leaves one zero h = fewer_objects now 1 0 (omega arith) (leaves 0 (keeps 0 (enters 0 one)))
room_back m entered left now enters keeps leaves one (suc k) h =
    let e : k + 1 ≡ suc k = omega arith in
    subst (λ (n : ℕ). HasRoom now n) e (leaves k (keeps k (enters k (subst (λ (n : ℕ). HasRoom m n) (sym e) h))))

pub on_any : {P : Type 0} (b : Bool) → P → OnTrue b P
on_any true h = h
on_any false h = tt
