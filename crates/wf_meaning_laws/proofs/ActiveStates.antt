-- Fresh receivers are steady, and those that are made ready; and the code of a typed package calls as its rules allow.
use Rattle.std.proofs.Common.{◌≡◌, ℕ, zero, suc, ◌+◌, ◌<◌, ◌≤◌, Bool, true, false, List, [], ◌∷◌, ◌++◌, length, map, replicate, Option, Some, None, refl, sym, ap, ◌∙◌, subst, arith}
use Rattle.std.specs.Prelude.{slice_get, nat_lt}
use Rattle.std.specs.List.{list_all}
use Rattle.wf_text.specs.Seen.{Answer}
use Rattle.wf_text.specs.HostActions.{Receiver}
use Rattle.wf_base.specs.Effects.{allows}
use Rattle.wf_base.specs.HostRun.{Response, answers, needs_more, not_defined}
use Rattle.wf_base.specs.declared.marks.Mark.{Mark}
use Rattle.wf_base.specs.declared.marks.Mark.TheVariants.{Pure, Impure, Coroutine}
use Rattle.wf_ast.specs.declared.types.Ty.{Ty}
use Rattle.wf_ast.specs.declared.types.Ty.TheVariants as types
use Rattle.wf_ast.specs.declared.typed_nodes.TypedNodes.{TypedNodes}
use Rattle.wf_ast.specs.TypedTree.{ValueTree, Target, own, sub, Simple, assign, await, perform, invoke, break_from, continue_in, give_back, yield, claim, Block, end, plain, choose, loop}
use Rattle.wf_ast.specs.TypedPackage.{Variable, MethodTree, PackageTree, package_of}
use Rattle.wf_ast.specs.TypedInvariant.{IsTyped}
use Rattle.wf_ast.specs.WellTyped.{is_coroutine, same_mark, well_invoked, well_simple, well_block, well_cond, well_method, well_typed, may_be_arg, may_be_local, may_be_result, answers_always, all_structs_whole, breaks}
use Rattle.wf_ast.specs.Value.{same_truth}
use Rattle.wf_meaning.specs.SourceState.{Held, held_num, held_truth, held_status, held_cells, held_part, Remaining, Object, SourceState, cleared, cleared_object, fresh_field, inside_field, fresh_fields, inside_fields, fields_of, raw_objects, fresh_receiver, fresh_state}
use Rattle.wf_meaning.specs.SourceCall.{source_init, init_receiver}
use Rattle.wf_meaning.proofs.Lists.{both_true}
use Rattle.wf_meaning.proofs.Lists2.{all_at, all_updated, some_same}
use Rattle.wf_meaning_laws.specs.Code.{CallIn, Calls}
use Rattle.wf_meaning_laws.specs.Active.{OwnCall, IsSteadyObject, AreSteady, IsSteadyReceiver, IsSteady}
use Rattle.wf_meaning_laws.proofs.Started.{none-there}

-- What remains of a method of which nothing does.
abbrev nothing : Option Remaining
nothing = None

length-none : (n : ℕ) → length (replicate n nothing) ≡ n
length-none zero = refl
length-none (suc n) = ap suc (length-none n)

module _ (p : PackageTree) where
  -- Nothing is active, and nothing remains.
  idle : (number n : ℕ) (o : Object) → o.active ≡ None → o.remaining ≡ replicate n None → n ≡ length p.methods → ((x part : ℕ) → slice_get o.fields x ≡ Some (held_part part) → number < part) → IsSteadyObject p number o
  idle number n o a r e h =
      record {
        formed = record { room = ap (λ (rs : List (Option Remaining)). length rs) r ∙ length-none n ∙ e; inside = h; code = λ m left k. absurd (none-there n m left (ap (λ (rs : List (Option Remaining)). slice_get rs m) (sym r) ∙ k)) };
        active = λ k q. absurd (cc (a, q));
      }

  -- Inits.
  cleared-part : (held : Held) (part : ℕ) → cleared held ≡ held_part part → held ≡ held_part part
  cleared-part (held_num n) part e = absurd (cc (e))
  cleared-part (held_truth n) part e = absurd (cc (e))
  cleared-part (held_status n) part e = absurd (cc (e))
  cleared-part (held_cells n) part e = absurd (cc (e))
  cleared-part (held_part n) part e = e

  cleared-parts : (fields : List Held) (x part : ℕ) → slice_get (map cleared fields) x ≡ Some (held_part part) → slice_get fields x ≡ Some (held_part part)
  cleared-parts [] x part e = absurd (cc (e))
  cleared-parts (held ∷ fields) zero part e = ap Some (cleared-part held part (some_same (cleared held) (held_part part) e))
  cleared-parts (held ∷ fields) (suc x) part e = cleared-parts fields x part e

  made-ready : (number : ℕ) (o : Object) → IsSteadyObject p number o → IsSteadyObject p number (cleared_object o)
  made-ready number o h = idle number (length o.remaining) (cleared_object o) refl refl h.formed.room (λ x part e. h.formed.inside x part (cleared-parts o.fields x part e))

  record Mapped (objects : List Object) (j : ℕ) (o' : Object) : Type 0 where
    o : Object
    there : slice_get objects j ≡ Some o
    is : cleared_object o ≡ o'

  mapped : (objects : List Object) (j : ℕ) (o' : Object) → slice_get (map cleared_object objects) j ≡ Some o' → Mapped objects j o'
  mapped [] j o' e = absurd (cc (e))
  mapped (o ∷ objects) zero o' e = record { o = o; there = refl; is = some_same (cleared_object o) o' e }
  mapped (o ∷ objects) (suc j) o' e = let it = mapped objects j o' e in record { o = it.o; there = it.there; is = it.is }

  all-ready : (objects : List Object) → AreSteady p objects → AreSteady p (map cleared_object objects)
  all-ready objects h = record { by = λ j o' e. let it = mapped objects j o' e in subst (IsSteadyObject p j) it.is (made-ready j it.o (h.by j it.o it.there)) }

  abbrev FineInit : Response SourceState → Type 0
  FineInit (answers a after) = IsSteady p after
  FineInit needs_more = Unit {0}
  FineInit not_defined = Unit {0}

  init-ok : (state : SourceState) (r : ℕ) (o : Option (Option (List Object))) → slice_get state r ≡ o → IsSteady p state → FineInit (init_receiver p state r o)
  init-ok state r None e h = tt
  init-ok state r (Some None) e h = h
  init-ok state r (Some (Some objects)) e h = all_updated (IsSteadyReceiver p) _ r state (λ x j. all-ready objects (all_at (IsSteadyReceiver p) state r (Some objects) h e)) h

  pub init-steady : (state : SourceState) (r turns : ℕ) (a : Answer) (after : SourceState) → IsSteady p state → source_init p state r turns ≡ answers a after → IsSteady p after
  unfolding source_init
  init-steady state r turns a after h e = let P : Response SourceState → Type 0 = FineInit in subst P e (init-ok state r (slice_get state r) refl h)

  -- Fresh receivers.
  abbrev AllFrom : ℕ → List Object → Type 0
  AllFrom n [] = Unit {0}
  AllFrom n (o ∷ objects) = IsSteadyObject p n o × AllFrom (n + 1) objects

  all-joined : (n : ℕ) (xs ys : List Object) → AllFrom n xs → AllFrom (n + length xs) ys → AllFrom n (xs ++ ys)
  all-joined n [] ys h k = let e : n + 0 ≡ n = omega arith in let P : ℕ → Type 0 = λ m. AllFrom m ys in subst P e k
  all-joined n (x ∷ xs) ys h k = let e : n + suc (length xs) ≡ (n + 1) + length xs = omega arith in let P : ℕ → Type 0 = λ m. AllFrom m ys in (h.0, all-joined (n + 1) xs ys h.1 (subst P e k))

  inside-one : (inside : ℕ → ℕ → List Object) → ((s n : ℕ) → AllFrom n (inside s n)) → (next : ℕ) (ty : Ty) → AllFrom next (inside_field inside next ty)
  inside-one inside h next (types.Num width lo hi) = tt
  inside-one inside h next types.Flag = tt
  inside-one inside h next types.Status = tt
  inside-one inside h next types.Reader = tt
  inside-one inside h next types.Writer = tt
  inside-one inside h next (types.Slice width) = tt
  inside-one inside h next (types.Array width lo hi count) = tt
  inside-one inside h next (types.Part s) = h s.0 next

  inside-all : (inside : ℕ → ℕ → List Object) → ((s n : ℕ) → AllFrom n (inside s n)) → (next : ℕ) (xs : List Variable) → AllFrom next (inside_fields inside next xs)
  inside-all inside h next [] = tt
  inside-all inside h next (x ∷ xs) = all-joined next (inside_field inside next x.ty) _ (inside-one inside h next x.ty) (inside-all inside h (next + length (inside_field inside next x.ty)) xs)

  field-part : (next : ℕ) (ty : Ty) (part : ℕ) → fresh_field next ty ≡ held_part part → next ≤ part
  field-part next (types.Num width lo hi) part e = absurd (cc (e))
  field-part next types.Flag part e = absurd (cc (e))
  field-part next types.Status part e = absurd (cc (e))
  field-part next types.Reader part e = absurd (cc (e))
  field-part next types.Writer part e = absurd (cc (e))
  field-part next (types.Slice width) part e = absurd (cc (e))
  field-part next (types.Array width lo hi count) part e = absurd (cc (e))
  field-part next (types.Part s) part e = let q : next ≡ part = cc (e) in omega (arith, q)

  fresh-parts : (inside : ℕ → ℕ → List Object) (next : ℕ) (xs : List Variable) (x part : ℕ) → slice_get (fresh_fields inside next xs) x ≡ Some (held_part part) → next ≤ part
  fresh-parts inside next [] x part e = absurd (cc (e))
  fresh-parts inside next (v ∷ xs) zero part e = field-part next v.ty part (some_same (fresh_field next v.ty) (held_part part) e)
  fresh-parts inside next (v ∷ xs) (suc x) part e = let h = fresh-parts inside (next + length (inside_field inside next v.ty)) xs x part e in omega (arith, h)

  raw-steady : (levels s n : ℕ) → AllFrom n (raw_objects p levels s n)
  raw-steady zero s n = tt
  raw-steady (suc levels) s n = (
    idle n (length p.methods) _ refl refl refl (λ x part e. let h = fresh-parts (raw_objects p levels) (n + 1) (fields_of p s) x part e in omega (arith, h)),
    inside-all (raw_objects p levels) (raw-steady levels) (n + 1) (fields_of p s),
  )

  at-place : (n j : ℕ) (objects : List Object) (o : Object) → AllFrom n objects → slice_get objects j ≡ Some o → IsSteadyObject p (n + j) o
  at-place n j [] o h e = absurd (cc (e))
  at-place n zero (x ∷ objects) o h e = let q : n ≡ n + 0 = omega arith in let P : ℕ → Type 0 = λ m. IsSteadyObject p m o in subst P q (subst (IsSteadyObject p n) (some_same x o e) h.0)
  at-place n (suc j) (x ∷ objects) o h e = let q : (n + 1) + j ≡ n + suc j = omega arith in let P : ℕ → Type 0 = λ m. IsSteadyObject p m o in subst P q (at-place (n + 1) j objects o h.1 e)

  one-fresh : (null : Bool) (s : ℕ) → IsSteadyReceiver p (fresh_receiver p null s)
  one-fresh true s = tt
  one-fresh false s = record { by = λ j o e. let h = at-place 0 j (raw_objects p (suc (length p.structs)) s 0) o (raw-steady (suc (length p.structs)) s 0) e in let q : 0 + j ≡ j = omega arith in let P : ℕ → Type 0 = λ m. IsSteadyObject p m o in subst P q h }

  pub fresh-steady : (receivers : List Receiver) → IsSteady p (fresh_state p receivers)
  fresh-steady [] = tt
  fresh-steady (r ∷ receivers) = (one-fresh r.null r.struct_number, fresh-steady receivers)

  -- The rules of types.
  plain-only : (outer inner : Mark) → allows outer inner ≡ true → is_coroutine outer ≡ false → is_coroutine inner ≡ false
  plain-only Pure Pure h e = refl
  plain-only Pure Impure h e = absurd (cc (h))
  plain-only Pure Coroutine h e = absurd (cc (h))
  plain-only Impure Pure h e = refl
  plain-only Impure Impure h e = refl
  plain-only Impure Coroutine h e = absurd (cc (h))
  plain-only Coroutine inner h e = absurd (cc (e))

  marks-same : (a c : Mark) → same_mark a c ≡ true → is_coroutine a ≡ false → is_coroutine c ≡ false
  marks-same Pure Pure h e = refl
  marks-same Impure Impure h e = refl
  marks-same Coroutine Coroutine h e = e
  marks-same Pure Impure h e = absurd (cc (h))
  marks-same Pure Coroutine h e = absurd (cc (h))
  marks-same Impure Pure h e = absurd (cc (h))
  marks-same Impure Coroutine h e = absurd (cc (h))
  marks-same Coroutine Pure h e = absurd (cc (h))
  marks-same Coroutine Impure h e = absurd (cc (h))

  module _ (method : ℕ) (m : MethodTree) (known : slice_get p.methods method ≡ Some m) where
    invoked-well : (target : Target) (keep : Bool) (mark : Mark) (k : ℕ) (args : List ValueTree) (o : Option MethodTree) → slice_get p.methods k ≡ o → well_invoked (record { within = p; method = m }) target keep mark (own k) args o ≡ true → OwnCall p method (own k)
    invoked-well target keep mark k args None e h = absurd (cc (h))
    invoked-well target keep mark k args (Some callee) e h = λ x y is there q. by x y is there q
      where
        by : (x y : MethodTree) → slice_get p.methods method ≡ Some x → slice_get p.methods k ≡ Some y → is_coroutine x.mark ≡ false → is_coroutine y.mark ≡ false
        by x y is there q =
            let first = both_true (same_mark mark callee.mark) _ h in
            let second = both_true (allows m.mark mark) _ first.1 in
            let P : MethodTree → Type 0 = λ z. is_coroutine z.mark ≡ false in
            let outer : is_coroutine m.mark ≡ false = subst P (some_same x m (sym is ∙ known)) q in
            subst P (some_same callee y (sym e ∙ there)) (marks-same mark callee.mark first.0 (plain-only m.mark mark second.0 outer))

    simple-well : (loops : List ℕ) (s : Simple) → well_simple (record { within = p; method = m }) loops s ≡ true → CallIn (OwnCall p method) s
    simple-well loops (assign target op v) h = tt
    simple-well loops (await at target a call) h = tt
    simple-well loops (perform at target call) h = tt
    simple-well loops (invoke at target keep mark (own k) args) h = invoked-well target keep mark k args (slice_get p.methods k) refl h
    simple-well loops (invoke at target keep mark (sub x k) args) h = tt
    simple-well loops (break_from n) h = tt
    simple-well loops (continue_in n) h = tt
    simple-well loops (give_back v) h = tt
    simple-well loops (yield status) h = tt
    simple-well loops (claim goal by) h = tt

    block-well : (loops : List ℕ) (block : Block) → well_block (record { within = p; method = m }) loops block ≡ true → Calls (OwnCall p method) block
    block-well loops end h = tt
    block-well loops (plain site s rest) h = let t = both_true (well_simple (record { within = p; method = m }) loops s) _ h in (simple-well loops s t.0, block-well loops rest t.1)
    block-well loops (choose site chained cond a c rest) h =
        let t = both_true (well_cond (record { within = p; method = m }) cond) _ h in
        let u = both_true (well_block (record { within = p; method = m }) loops a) _ t.1 in
        let v = both_true (well_block (record { within = p; method = m }) loops c) _ u.1 in
        (block-well loops a u.0, (block-well loops c v.0, block-well loops rest v.1))
    block-well loops (loop site head body rest) h =
        let t = both_true (well_cond (record { within = p; method = m }) head.cond) _ h in
        let u = both_true (list_all (λ c. well_cond (record { within = p; method = m }) c.1) head.clauses) _ t.1 in
        let v = both_true (same_truth head.is_left (breaks site.number body)) _ u.1 in
        let w = both_true (well_block (record { within = p; method = m }) (site.number ∷ loops) body) _ v.1 in
        (block-well (site.number ∷ loops) body w.0, block-well loops rest w.1)

    method-well : well_method p m ≡ true → Calls (OwnCall p method) m.body
    method-well h =
        let a = both_true (nat_lt m.of (length p.structs)) _ h in
        let c = both_true (list_all (λ x. may_be_arg x.ty) m.args) _ a.1 in
        let d = both_true (list_all (λ x. may_be_local x.ty) m.locals) _ c.1 in
        let e = both_true (may_be_result m.mark m.gives) _ d.1 in
        let f = both_true (answers_always m.mark m.gives m.body) _ e.1 in
        block-well [] m.body f.1

one-of : (test : MethodTree → Bool) (ms : List MethodTree) (i : ℕ) (m : MethodTree) → list_all test ms ≡ true → slice_get ms i ≡ Some m → test m ≡ true
one-of test [] i m h e = absurd (cc (e))
one-of test (n ∷ ms) zero m h e = let P : MethodTree → Type 0 = λ z. test z ≡ true in subst P (some_same n m e) (both_true (test n) _ h).0
one-of test (n ∷ ms) (suc i) m h e = one-of test ms i m (both_true (test n) _ h).1 e

pub code-typed : (nodes : TypedNodes) → IsTyped nodes → (method : ℕ) (m : MethodTree) → slice_get (package_of nodes).methods method ≡ Some m → Calls (OwnCall (package_of nodes) method) m.body
unfolding well_typed
code-typed nodes typed method m known =
    let first = both_true (all_structs_whole (package_of nodes) 0 (package_of nodes).structs) _ typed.rules in
    let second = both_true (list_all (well_method (package_of nodes)) (package_of nodes).methods) _ first.1 in
    method-well (package_of nodes) method m known (one-of (well_method (package_of nodes)) (package_of nodes).methods method m second.0 known)
