-- What is left of a list of facts where what mentions several things is dropped.
use Rattle.std.proofs.Common.{◌≡◌, ℕ, Bool, true, false, not, ◌||◌, List, [], ◌∷◌, Some, refl, sym, ap, ◌∙◌, subst}
use Rattle.std.specs.Prelude.{if◌then◌else◌, filter}
use Rattle.wf_ast.specs.declared.things.Thing.{Thing}
use Rattle.wf_ast.specs.declared.things.Thing.TheVariants as things
use Rattle.wf_ast.specs.TypedTree.{Path, arg}
use Rattle.wf_ast.specs.Value.{Store, State, io_buffer}
use Rattle.wf_ast.specs.Mentions.{path_is, slice_is, is_element, AgreeBut}
use Rattle.wf_facts_exprs.specs.Claims.{Claim, AllTrue, claim_mentions}
use Rattle.wf_facts.specs.FactLists.{without}
use Rattle.wf_facts.proofs.LawLemmas.{without-true}
use Rattle.wf_bounds_stmts.specs.Calls.{interrupted}

abbrev pub any_path : List Thing → Path → Bool
any_path [] p = false
any_path (x ∷ xs) p = path_is x p || any_path xs p

abbrev pub any_slice : List Thing → Path → Bool
any_slice [] p = false
any_slice (x ∷ xs) p = slice_is x p || any_slice xs p

abbrev pub any_element : List Thing → Bool
any_element [] = false
any_element (x ∷ xs) = is_element x || any_element xs

-- Two states differ at most in what these things stand for.
pub record AgreeBeside (xs : List Thing) (s s' : State) : Type 0 where
  pub numbers : (p : Path) → any_path xs p ≡ false → s.number_at p ≡ s'.number_at p
  pub flags : (p : Path) → any_path xs p ≡ false → s.flag_at p ≡ s'.flag_at p
  pub statuses : (p : Path) → any_path xs p ≡ false → s.status_at p ≡ s'.status_at p
  pub spans : (p : Path) → any_slice xs p ≡ false → s.span_at p ≡ s'.span_at p
  pub elements : any_element xs ≡ false → (store : Store) → s.cells_at store ≡ s'.cells_at store
  pub buffers : (a : ℕ) → any_path xs (arg a) ≡ false → io_buffer s a ≡ io_buffer s' a
  pub texts : (n : ℕ) → s.status_text n ≡ s'.status_text n

-- What mentions any of them is dropped.
abbrev pub without_all : List Thing → List Claim → List Claim
without_all [] fs = fs
without_all (x ∷ xs) fs = without_all xs (without x fs)

-- The first state, with what one thing stands for from the second.
abbrev mixed : Thing → State → State → State
mixed x s s' = record {
  number_at = λ p. if path_is x p then s'.number_at p else s.number_at p;
  flag_at = λ p. if path_is x p then s'.flag_at p else s.flag_at p;
  status_at = λ p. if path_is x p then s'.status_at p else s.status_at p;
  span_at = λ p. if slice_is x p then s'.span_at p else s.span_at p;
  cells_at = λ store. if is_element x then s'.cells_at store else s.cells_at store;
  buffer_number = λ a. Some a;
  buffer_at = λ a. if path_is x (arg a) then io_buffer s' a else io_buffer s a;
  status_text = s.status_text;
}

other : {X : Type 0} (b : Bool) (a c : X) → b ≡ false → c ≡ (if b then a else c)
other true a c h = absurd (cc (h))
other false a c h = refl

either-way : {X : Type 0} (b rest : Bool) (a c : X) → rest ≡ false → ((b || rest) ≡ false → c ≡ a) → (if b then a else c) ≡ a
either-way true rest a c h k = refl
either-way false rest a c h k = k h

agree-mixed : (x : Thing) (s s' : State) → AgreeBut x s (mixed x s s')
agree-mixed x s s' = record {
  numbers = λ p h. other (path_is x p) _ _ h;
  flags = λ p h. other (path_is x p) _ _ h;
  statuses = λ p h. other (path_is x p) _ _ h;
  spans = λ p h. other (slice_is x p) _ _ h;
  elements = λ h store. other (is_element x) _ _ h;
  buffers = λ a h. other (path_is x (arg a)) _ _ h;
  texts = λ n. refl;
}

mixed-agrees : (x : Thing) (xs : List Thing) (s s' : State) → AgreeBeside (x ∷ xs) s s' → AgreeBeside xs (mixed x s s') s'
mixed-agrees x xs s s' agree = record {
  numbers = λ p h. either-way (path_is x p) (any_path xs p) _ _ h (agree.numbers p);
  flags = λ p h. either-way (path_is x p) (any_path xs p) _ _ h (agree.flags p);
  statuses = λ p h. either-way (path_is x p) (any_path xs p) _ _ h (agree.statuses p);
  spans = λ p h. either-way (slice_is x p) (any_slice xs p) _ _ h (agree.spans p);
  elements = λ h store. either-way (is_element x) (any_element xs) _ _ h (λ k. agree.elements k store);
  buffers = λ a h. either-way (path_is x (arg a)) (any_path xs (arg a)) _ _ h (agree.buffers a);
  texts = agree.texts;
}

or_false : (b : Bool) → b ≡ false → (b || false) ≡ false
or_false true h = h
or_false false h = refl

pub agree-one : (x : Thing) (s s' : State) → AgreeBeside (x ∷ []) s s' → AgreeBut x s s'
agree-one x s s' agree = record {
  numbers = λ p h. agree.numbers p (or_false (path_is x p) h);
  flags = λ p h. agree.flags p (or_false (path_is x p) h);
  statuses = λ p h. agree.statuses p (or_false (path_is x p) h);
  spans = λ p h. agree.spans p (or_false (slice_is x p) h);
  elements = λ h. agree.elements (or_false (is_element x) h);
  buffers = λ a h. agree.buffers a (or_false (path_is x (arg a)) h);
  texts = agree.texts;
}

pub drops-true : (x : Thing) (xs : List Thing) (s s' : State) (fs : List Claim) → AgreeBeside (x ∷ xs) s s' → AllTrue s fs → AllTrue s' (without_all (x ∷ xs) fs)
drops-true x [] s s' fs agree h = without-true x s s' (agree-one x s s' agree) fs h
drops-true x (y ∷ ys) s s' fs agree h =
    drops-true y ys (mixed x s s') s' (without x fs) (mixed-agrees x (y ∷ ys) s s' agree) (without-true x s (mixed x s s') (agree-mixed x s s') fs h)

-- Dropping alone changes no state.
pub agree-same : (xs : List Thing) (s : State) → AgreeBeside xs s s
agree-same xs s = record { numbers = λ p h. refl; flags = λ p h. refl; statuses = λ p h. refl; spans = λ p h. refl; elements = λ h store. refl; buffers = λ a h. refl; texts = λ n. refl }

-- What is known where a method may have been left.
abbrev pub at_leaving : List Thing
at_leaving = things.This ∷ things.Args ∷ things.Element ∷ things.SliceLocals ∷ []

pub interrupted-true : (s s' : State) (fs : List Claim) → AgreeBeside at_leaving s s' → AllTrue s fs → AllTrue s' (interrupted fs)
interrupted-true s s' fs agree h = drops-true things.This (things.Args ∷ things.Element ∷ things.SliceLocals ∷ []) s s' fs agree h

-- What has been dropped once needn't be dropped again.
any_mentions : List Thing → Claim → Bool
any_mentions [] f = false
any_mentions (x ∷ xs) f = claim_mentions x f || any_mentions xs f

abbrev left_of : (Claim → Bool) → List Claim → List Claim
left_of drops fs = filter (λ f. not (drops f)) fs

one-drop : (x : Thing) (test : Claim → Bool) (fs : List Claim) → left_of test (without x fs) ≡ left_of (λ f. claim_mentions x f || test f) fs
one-drop x test [] = refl
one-drop x test (f ∷ fs) = by (claim_mentions x f) (test f) refl refl (one-drop x test fs)
  where
    by : (p q : Bool) → claim_mentions x f ≡ p → test f ≡ q → left_of test (without x fs) ≡ left_of (λ f. claim_mentions x f || test f) fs → left_of test (without x (f ∷ fs)) ≡ left_of (λ f. claim_mentions x f || test f) (f ∷ fs)
    by true q e i rest = rw e rest
    by false true e i rest = rw (e, i) rest
    by false false e i rest = rw (e, i) (ap (λ gs. f ∷ gs) rest)

all-drops : (xs : List Thing) (fs : List Claim) → without_all xs fs ≡ left_of (any_mentions xs) fs
unfolding any_mentions
all-drops [] fs = sym (all-stay fs)
  where
    all-stay : (fs : List Claim) → left_of (λ f. false) fs ≡ fs
    all-stay [] = refl
    all-stay (f ∷ fs) = ap (λ gs. f ∷ gs) (all-stay fs)
all-drops (x ∷ xs) fs = all-drops xs (without x fs) ∙ one-drop x (any_mentions xs) fs

twice : (test : Claim → Bool) (fs : List Claim) → left_of test (left_of test fs) ≡ left_of test fs
twice test [] = refl
twice test (f ∷ fs) = by (test f) refl (twice test fs)
  where
    by : (p : Bool) → test f ≡ p → left_of test (left_of test fs) ≡ left_of test fs → left_of test (left_of test (f ∷ fs)) ≡ left_of test (f ∷ fs)
    by true e rest = rw e rest
    by false e rest = rw (e, e) (ap (λ gs. f ∷ gs) rest)

pub interrupted-twice : (fs : List Claim) → interrupted (interrupted fs) ≡ interrupted fs
interrupted-twice fs = all-drops at_leaving (interrupted fs) ∙ ap (left_of (any_mentions at_leaving)) (all-drops at_leaving fs) ∙ twice (any_mentions at_leaving) fs ∙ sym (all-drops at_leaving fs)

pub still-true : (s s' : State) (fs : List Claim) → AgreeBeside at_leaving s s' → AllTrue s (interrupted fs) → AllTrue s' (interrupted fs)
still-true s s' fs agree h = let P : List Claim → Type 0 = λ gs. AllTrue s' gs in subst P (interrupted-twice fs) (interrupted-true s s' (interrupted fs) agree h)

pub interrupted-here : (s : State) (fs : List Claim) → AllTrue s fs → AllTrue s (interrupted fs)
interrupted-here s fs h = interrupted-true s s fs (agree-same at_leaving s) h
