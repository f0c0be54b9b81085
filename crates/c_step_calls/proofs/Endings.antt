-- What a call has come to, once what it left is taken back.
use Rattle.std.proofs.Common.{◌≡◌, ℕ, zero, suc, ◌+◌, ◌<◌, ◌≤◌, Bool, true, false, List, [], ◌∷◌, length, take, Option, Some, None, refl, sym, subst, ap, ◌∙◌, arith}
use Rattle.std.specs.Prelude.{slice_get, option_map}
use Rattle.turns.specs.Run.{Outcome as Ran}
use Rattle.wf_text.specs.Surface.{Surface, PublicStruct, PublicMethod}
use Rattle.wf_text.specs.Seen.{Answer}
use Rattle.wf_text.specs.HostActions.{HostArg}
use Rattle.wf_base.specs.HostRun.{Host, HostCall, Response}
use Rattle.wf_bufs.specs.declared.outcomes.Outcome.{Outcome}
use Rattle.wf_bufs.specs.declared.outcomes.Reply.{Reply}
use Rattle.wf_bufs.specs.declared.outcomes.Reply.TheVariants.{Done, Turns, Undefined}
use Rattle.wf_bufs.specs.EngineLaw.{done, undefined, Replies}
use Rattle.c_meaning.specs.declared.values.CValue.{CValue}
use Rattle.c_meaning.specs.CMemory.{Object, Memory}
use Rattle.c_meaning.specs.CStep.{Returned}
use Rattle.c_meaning.specs.CCall.{host_call}
use Rattle.c_meaning.specs.CRun.{Loaded, function_name, most_args, all_values, call_memory, args_left, answer_of, answered_with, response, call_ended, call_of}
use Rattle.c_step_hosts.specs.Leaving.{AreIosBetween}
use Rattle.c_step_hosts.specs.Taking.{Gives}
use Rattle.c_step_hosts.specs.Lending.{lent_for, all_lent, AreThere}
use Rattle.c_step_hosts.proofs.Lent.{as_many}
use Rattle.c_step_engine.specs.Engines.{outcome_for, given, OnDone}

-- The first objects of memory are the same.
got_in_front : (xs : Memory) (n k : ℕ) → k < n → slice_get (take n xs) k ≡ slice_get xs k
got_in_front xs zero k h = absurd (omega (arith, h))
got_in_front [] (suc n) k h = refl
got_in_front (x ∷ xs) (suc n) zero h = refl
got_in_front (x ∷ xs) (suc n) (suc k) h = got_in_front xs n k (omega (arith, h))

pub ios_in_front : (from to : ℕ) (old new : Memory) → take to new ≡ take to old → AreIosBetween from to old → AreIosBetween from to new
ios_in_front from to old new same h = λ k o f t e.
    h k o f t (sym (got_in_front old to k t) ∙ (ap (λ (xs : Memory). slice_get xs k) (sym same) ∙ (got_in_front new to k t ∙ e)))

take_none : (n : ℕ) → take {A = Object} n [] ≡ []
take_none zero = refl
take_none (suc n) = refl

take_fewer : (xs : Memory) (n m : ℕ) → n ≤ m → take n (take m xs) ≡ take n xs
take_fewer xs zero m h = refl
take_fewer [] (suc n) m h = ap (λ (ys : Memory). take (suc n) ys) (take_none m)
take_fewer (x ∷ xs) (suc n) zero h = absurd (omega (arith, h))
take_fewer (x ∷ xs) (suc n) (suc m) h = ap (λ (ys : Memory). x ∷ ys) (take_fewer xs n m (omega (arith, h)))

pub front_same : (old new : Memory) (n m : ℕ) → n ≤ m → take m new ≡ take m old → take n new ≡ take n old
front_same old new n m h same = sym (take_fewer new n m h) ∙ (ap (λ (xs : Memory). take n xs) same ∙ take_fewer old n m h)

pub taken_length : (xs : Memory) (n : ℕ) → n ≤ length xs → length (take n xs) ≡ n
taken_length xs zero h = refl
taken_length [] (suc n) h = absurd (omega (arith, h))
taken_length (x ∷ xs) (suc n) h = ap suc (taken_length xs n (omega (arith, h)))

-- Without what isn't asked.
pub gives_less : {A : Type 0} (o : Option A) (b : Bool) (P Q : A → Type 0) → ((x : A) → P x → Q x) → Gives o b P → Gives o b Q
gives_less o true P Q h g = (g.0, g.1, h g.0 g.2)
gives_less o false P Q h g = g

-- Replies.
module _ (s : Surface) {A B : Type 0} (f : A → B) (after : B) where
  pub nothing_answered : (a : Option Answer) (left : Option A) → None ≡ option_map (outcome_for s) a → Replies (given s (λ (x : B). x) (answered_with a (option_map f left))) Undefined after
  nothing_answered None left e = refl
  nothing_answered (Some a) left e = absurd (cc (e))

  pub nothing_left : (a : Option Answer) (left : Option A) → left ≡ None → Replies (given s (λ (x : B). x) (answered_with a (option_map f left))) Undefined after
  nothing_left a left e = ap (λ (o : Option A). given s (λ (x : B). x) (answered_with a (option_map f o))) e ∙ by a
    where
      by : (a : Option Answer) → given s (λ (x : B). x) (answered_with a None) ≡ undefined
      by None = refl
      by (Some a) = refl

  pub all_left : (a : Option Answer) (outcome : Outcome) (left : Option A) (x : A) → Some outcome ≡ option_map (outcome_for s) a → left ≡ Some x → after ≡ f x
      → Replies (given s (λ (x : B). x) (answered_with a (option_map f left))) (Done outcome) after
  all_left None outcome left x e i h = absurd (cc (e))
  all_left (Some a) outcome left x e i h =
      let same : outcome ≡ outcome_for s a = cc (e) in
      ap (λ (o : Option A). given s (λ (x : B). x) (answered_with (Some a) (option_map f o))) i
      ∙ (ap (λ (o : Outcome). done o (f x)) (sym same) ∙ ap (λ (y : B). done outcome y) (sym h))

-- A call comes to what its function comes to.
pub call_comes : (it : Loaded) (m : Memory) (s : PublicStruct) (method : PublicMethod) (what : HostCall) (host : Host) (turns : ℕ) (v : CValue) (n most : ℕ) (args : List HostArg) (o : Ran Returned)
    → length m ≡ n → most_args it.surface.structs ≡ most → what.args ≡ args → host_call it.program (function_name it.surface s method.name) turns (v ∷ all_values host n (n + most) args) (call_memory host m most args) ≡ o
    → call_of it m s method what host turns v
    ≡ response (λ done. answered_with (answer_of it.program it.surface method.answers done.value) (option_map (λ left. (take n done.memory, left)) (args_left done.memory n (n + most) args host))) o
call_comes it m s method what host turns v n most args o en em ea e =
    let P : ℕ → ℕ → List HostArg → Type 0 = λ n most args.
    host_call it.program (function_name it.surface s method.name) turns (v ∷ all_values host n (n + most) args) (call_memory host m most args) ≡ o
    → call_of it m s method what host turns v
    ≡ response (λ done. answered_with (answer_of it.program it.surface method.answers done.value) (option_map (λ left. (take n done.memory, left)) (args_left done.memory n (n + most) args host))) o in
    let base : P (length m) (most_args it.surface.structs) what.args = λ h. ap (response (call_ended it m method what host (most_args it.surface.structs))) h in
    let one : P (length m) (most_args it.surface.structs) args = subst (λ (as_ : List HostArg). P (length m) (most_args it.surface.structs) as_) ea base in
    let two : P (length m) most args = subst (λ (k : ℕ). P (length m) k args) em one in
    let all : P n most args = subst (λ (k : ℕ). P k most args) en two in
    all e

pub called_with : (it : Loaded) (m : Memory) (s : PublicStruct) (method : PublicMethod) (what : HostCall) (host : Host) (turns : ℕ) (v : CValue) (n most : ℕ) (args : List HostArg) (o : Ran Returned) (values : List CValue) (mem : Memory)
    → length m ≡ n → most_args it.surface.structs ≡ most → what.args ≡ args → values ≡ v ∷ all_values host n (n + most) args → mem ≡ call_memory host m most args
    → host_call it.program (function_name it.surface s method.name) turns values mem ≡ o
    → call_of it m s method what host turns v
    ≡ response (λ done. answered_with (answer_of it.program it.surface method.answers done.value) (option_map (λ left. (take n done.memory, left)) (args_left done.memory n (n + most) args host))) o
called_with it m s method what host turns v n most args o values mem en em ea vs is e =
    let one = subst (λ (xs : List CValue). host_call it.program (function_name it.surface s method.name) turns xs mem ≡ o) vs e in
    call_comes it m s method what host turns v n most args o en em ea (subst (λ (x : Memory). host_call it.program (function_name it.surface s method.name) turns (v ∷ all_values host n (n + most) args) x ≡ o) is one)

pub replies_so : {A : Type 0} (s : Surface) (r q : Response A) (reply : Reply) (after : A) → r ≡ q → Replies (given s (λ (x : A). x) q) reply after → Replies (given s (λ (x : A). x) r) reply after
replies_so s r q reply after e h = subst (λ (x : Response _). Replies (given s (λ (y : _). y) x) reply after) (sym e) h

pub on_done : (reply : Reply) (A B C D : Type 0) → (A → B → C → D) → OnDone reply A → OnDone reply B → OnDone reply C → OnDone reply D
on_done (Done outcome) A B C D f a b c = f a b c
on_done Turns A B C D f a b c = tt
on_done Undefined A B C D f a b c = tt

pub pair : {A B : Type 0} (a b : A) (x y : B) → a ≡ b → x ≡ y → ◌≡◌ {A = A × B} (a, x) (b, y)
pair {A = A} {B = B} a b x y e h = (let f : A → A × B = λ z. (z, x) in ap f e) ∙ (let g : B → A × B = λ z. (b, z) in ap g h)

pub lent_as_many : (args : List HostArg) (host : Host) → (length (all_lent args host).buffers ≡ length host.buffers) × (length (all_lent args host).arrays ≡ length host.arrays)
lent_as_many [] host = (refl, refl)
lent_as_many (arg ∷ args) host = let r = lent_as_many args (lent_for arg host) in (r.0 ∙ (as_many host arg).0, r.1 ∙ (as_many host arg).1)

pub there_still : (now was : Host) (args : List HostArg) → now ≡ all_lent args was → AreThere (length was.buffers) (length was.arrays) args → AreThere (length now.buffers) (length now.arrays) args
there_still now was args e h =
    let r = lent_as_many args was in
    let a : length now.buffers ≡ length was.buffers = ap (λ (x : Host). length x.buffers) e ∙ r.0 in
    let b : length now.arrays ≡ length was.arrays = ap (λ (x : Host). length x.arrays) e ∙ r.1 in
    subst (λ (n : ℕ). AreThere n (length now.arrays) args) (sym a) (subst (λ (n : ℕ). AreThere (length was.buffers) n args) (sym b) h)

pub done_so : (reply : Reply) (A B : Type 0) → (A → B) → OnDone reply A → OnDone reply B
done_so (Done outcome) A B f a = f a
done_so Turns A B f a = tt
done_so Undefined A B f a = tt
