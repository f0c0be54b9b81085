-- Each function of a program stands in the program's code.
use Rattle.std.proofs.Common.{◌≡◌, ℕ, zero, suc, ◌+◌, ◌-◌, ◌<◌, ◌≤◌, Bool, true, false, List, [], ◌∷◌, ◌++◌, length, Option, Some, None, refl, sym, ap, ◌∙◌, subst, arith, take, drop}
use Rattle.std.specs.Prelude.{if◌then◌else◌, slice_get, slice_range, bytes_eq}
use Rattle.std.proofs.lemmas.List.{append_assoc, append-nil, length-append, take_at, drop_at}
use Rattle.std.proofs.lemmas.Option.{slice_get_within}
use Rattle.c_text.specs.CTree.{TypeTree, ExprTree, Code, finish, nested, empty, assign, call, jump, branch, repeat, select, leave, case_label, default_label, name_label, LocalTree}
use Rattle.c_meaning.specs.CTypes.{Function, CScope, returned}
use Rattle.c_meaning.specs.CCall.{Program, scope_in}
use Rattle.c_step_exprs.specs.declared.instrs.Instr.{Instr}
use Rattle.c_step_exprs.specs.Resolving.{function_number, value_code}
use Rattle.c_step_text.specs.Flat.{FlatText}
use Rattle.c_step_text.specs.Layout.{Names}
use Rattle.c_step_text.specs.Acting.{names_of}
use Rattle.c_step_text.specs.Numbered.{activation_of, AreOthers}
use Rattle.c_step_text.specs.Emitted.{StandAt, exprs_of, arms_of, return_exprs, function_statements}
use Rattle.c_step_text.proofs.Emits.{emitted_function}
use Rattle.c_step_text.proofs.Numbers.{numbered}
use Rattle.c_step_frames.specs.Frames.{FrameView}
use Rattle.c_step_run.specs.declared.code.Initial.{Initial}
use Rattle.c_step_run.specs.declared.code.Func.{Func}
use Rattle.c_step_run.specs.Coding.{CodeView, InlineOf, InitialOf, InitialsOf, IsCoded, AreCoded, IsRanked, inline_length, frame_of, args_of}
use Rattle.c_step_program.specs.Programs.{AreApart, initial_exprs_of, initial_exprs, initial_span, initials_of, inline_of, inline_lengths, own, body_exprs, func_of, with_function, code_of, frames_of, all_args}

-- Lists that begin with others.
pub record Begins {A : Type 0} (xs ys : List A) : Type 0 where
  pub more : List A
  pub is : ys ≡ xs ++ more

begins_front : {A : Type 0} (xs these ys : List A) → Begins (xs ++ these) ys → Begins xs ys
begins_front xs these ys h = record { more = these ++ h.more; is = h.is ∙ append_assoc xs these h.more }

begins_self : {A : Type 0} (xs : List A) → Begins xs xs
begins_self xs = record { more = []; is = sym (append-nil xs) }

stand_at : {A : Type 0} (xs these ys : List A) → Begins (xs ++ these) ys → StandAt ys (length xs) these
stand_at xs these ys h = record { front = xs; rest = h.more; is = h.is ∙ append_assoc xs these h.more; size = refl }

at_left : {A : Type 0} (all : List A) (n : ℕ) (xs ys : List A) → StandAt all n (xs ++ ys) → StandAt all n xs
at_left all n xs ys h = record { front = h.front; rest = ys ++ h.rest; is = h.is ∙ ap (λ (zs : List _). h.front ++ zs) (append_assoc xs ys h.rest); size = h.size }

at_right : {A : Type 0} (all : List A) (n : ℕ) (xs ys : List A) → StandAt all n (xs ++ ys) → StandAt all (n + length xs) ys
at_right all n xs ys h = record {
  front = h.front ++ xs;
  rest = h.rest;
  is = h.is ∙ (ap (λ (zs : List _). h.front ++ zs) (append_assoc xs ys h.rest) ∙ sym (append_assoc h.front xs (ys ++ h.rest)));
  size = length-append h.front xs ∙ ap (λ (s : ℕ). s + length xs) h.size;
}

as_many : (n l : ℕ) → l ≡ n + l - n
as_many n l = omega arith

at_range : {A : Type 0} (all : List A) (n : ℕ) (xs : List A) → StandAt all n xs → slice_range all n (n + length xs) ≡ xs
at_range all n xs h =
    ap (λ (zs : List _). take (n + length xs - n) (drop n zs)) h.is
    ∙ (ap (λ (zs : List _). take (n + length xs - n) zs) (drop_at h.front (xs ++ h.rest) n h.size) ∙ take_at xs h.rest (n + length xs - n) (as_many n (length xs)))

get_at : {A : Type 0} (front : List A) (x : A) (rest : List A) → slice_get (front ++ x ∷ rest) (length front) ≡ Some x
get_at [] x rest = refl
get_at (y ∷ ys) x rest = get_at ys x rest

at_end : {A : Type 0} (xs ys : List A) (x : A) → Begins (xs ++ x ∷ []) ys → slice_get ys (length xs) ≡ Some x
at_end xs ys x h = ap (λ (zs : List _). slice_get zs (length xs)) (h.is ∙ append_assoc xs (x ∷ []) h.more) ∙ get_at xs x h.more

-- Code that begins with other code.
pub record BeginsCode (c all : CodeView) : Type 0 where
  pub statements : Begins c.text.statements all.text.statements
  pub exprs : Begins c.text.exprs all.text.exprs
  pub arms : Begins c.text.arms all.text.arms
  pub initials : Begins c.initials all.initials
  pub functions : Begins c.functions all.functions

without_last : (p : Program) (f : Function) (fs : List Function) (c all : CodeView) → BeginsCode (with_function p f fs c) all → BeginsCode c all
without_last p f fs c all h = record {
  statements = begins_front c.text.statements _ all.text.statements h.statements;
  exprs = begins_front c.text.exprs _ all.text.exprs h.exprs;
  arms = begins_front c.text.arms _ all.text.arms h.arms;
  initials = begins_front c.initials _ all.initials h.initials;
  functions = begins_front c.functions _ all.functions h.functions;
}

-- There is one entry for each function.
pub as_many_functions : (p : Program) (fs : List Function) → length (code_of p fs).functions ≡ length fs
as_many_functions p [] = refl
as_many_functions p (f ∷ fs) = length-append (code_of p fs).functions (func_of p f (code_of p fs) ∷ []) ∙ one_on (length (code_of p fs).functions) (length fs) (as_many_functions p fs)
  where
    one_on : (n k : ℕ) → n ≡ k → n + length (func_of p f (code_of p fs) ∷ []) ≡ suc k
    one_on n k e = omega (arith, e)

pub as_many_frames : (fs : List Function) → length (frames_of fs) ≡ length fs
as_many_frames [] = refl
as_many_frames (f ∷ fs) = length-append (frames_of fs) (frame_of f ∷ []) ∙ one_on (length (frames_of fs)) (length fs) (as_many_frames fs)
  where
    one_on : (n k : ℕ) → n ≡ k → n + length (frame_of f ∷ []) ≡ suc k
    one_on n k e = omega (arith, e)

pub as_many_args : (fs : List Function) → length (all_args fs) ≡ length fs
as_many_args [] = refl
as_many_args (f ∷ fs) = length-append (all_args fs) (args_of f ∷ []) ∙ one_on (length (all_args fs)) (length fs) (as_many_args fs)
  where
    one_on : (n k : ℕ) → n ≡ k → n + length (args_of f ∷ []) ≡ suc k
    one_on n k e = omega (arith, e)

pub as_many_initials : (scope : CScope) (field place : ℕ) (ls : List LocalTree) → length (initials_of scope field place ls) ≡ length ls
as_many_initials scope field place [] = refl
as_many_initials scope field place (l ∷ ls) = ap suc (as_many_initials scope (field + 1) (place + length (initial_exprs_of scope l.initial)) ls)

-- The initial values of locals.
one_initial : (t : FlatText) (scope : CScope) (place : ℕ) (o : Option ExprTree) → StandAt t.exprs place (initial_exprs_of scope o) → InitialOf t scope o (initial_span scope place o)
one_initial t scope place None h = tt
one_initial t scope place (Some x) h = at_range t.exprs place (value_code scope x) h

all_initials : (t : FlatText) (scope : CScope) (field place : ℕ) (ls : List LocalTree) → StandAt t.exprs place (initial_exprs scope ls) → InitialsOf t scope field ls (initials_of scope field place ls)
all_initials t scope field place [] h = tt
all_initials t scope field place (l ∷ ls) h = (
  refl,
  one_initial t scope place l.initial (at_left t.exprs place (initial_exprs_of scope l.initial) (initial_exprs scope ls) h),
  all_initials t scope (field + 1) (place + length (initial_exprs_of scope l.initial)) ls (at_right t.exprs place (initial_exprs_of scope l.initial) (initial_exprs scope ls) h),
)

-- The value in an expression.
a_value : (t : FlatText) (scope : CScope) (place : ℕ) (v : Option ExprTree) (type : Option TypeTree) → ((x : ExprTree) (ty : TypeTree) → v ≡ Some x → type ≡ Some ty → StandAt t.exprs place (value_code scope x)) → InlineOf t scope v type (inline_of scope place v type)
a_value t scope place None type h = refl
a_value t scope place (Some v) None h = refl
a_value t scope place (Some v) (Some ty) h = (at_range t.exprs place (value_code scope v) (h v ty refl refl), refl)

-- A body that returns a value is one `return`.
pub one_return : (body : Code) (x : ExprTree) → returned body ≡ Some x → body ≡ leave (Some x) finish
one_return (leave None finish) x e = absurd (cc (e))
one_return (leave (Some v) finish) x e = let s : v ≡ x = cc (e) in ap (λ (y : ExprTree). leave (Some y) finish) s
one_return (leave value (nested a b)) x e = absurd (cc (e))
one_return (leave value (empty a)) x e = absurd (cc (e))
one_return (leave value (assign a b d)) x e = absurd (cc (e))
one_return (leave value (call a b d g)) x e = absurd (cc (e))
one_return (leave value (jump a b)) x e = absurd (cc (e))
one_return (leave value (branch a b d g k)) x e = absurd (cc (e))
one_return (leave value (repeat a b d)) x e = absurd (cc (e))
one_return (leave value (select a b d)) x e = absurd (cc (e))
one_return (leave value (leave a b)) x e = absurd (cc (e))
one_return (leave value (case_label a b)) x e = absurd (cc (e))
one_return (leave value (default_label a)) x e = absurd (cc (e))
one_return (leave value (name_label a b)) x e = absurd (cc (e))
one_return finish x e = absurd (cc (e))
one_return (nested a b) x e = absurd (cc (e))
one_return (empty a) x e = absurd (cc (e))
one_return (assign a b d) x e = absurd (cc (e))
one_return (call a b d g) x e = absurd (cc (e))
one_return (jump a b) x e = absurd (cc (e))
one_return (branch a b d g k) x e = absurd (cc (e))
one_return (repeat a b d) x e = absurd (cc (e))
one_return (select a b d) x e = absurd (cc (e))
one_return (case_label a b) x e = absurd (cc (e))
one_return (default_label a) x e = absurd (cc (e))
one_return (name_label a b) x e = absurd (cc (e))

returned_stands : (all : List Instr) (names : Names) (place : ℕ) (body : Code) (x : ExprTree) (ty : TypeTree) → returned body ≡ Some x → names.result_type ≡ Some ty → StandAt all place (exprs_of names body) → StandAt all place (value_code names.scope x)
returned_stands all names place body x ty e r h =
    let one : StandAt all place (exprs_of names (leave (Some x) finish)) = subst (λ (b : Code). StandAt all place (exprs_of names b)) (one_return body x e) h in
    subst (λ (o : Option TypeTree). StandAt all place (return_exprs names o (Some x))) r (at_left all place (return_exprs names names.result_type (Some x)) [] one)

-- Names that no function before it has.
none_if : (b : Bool) (n : ℕ) (o : Option ℕ) → (if b then Some n else o) ≡ None → o ≡ None
none_if true n o e = absurd (cc (e))
none_if false n o e = e

pub none_in : (front fs : List Function) (name : List ℕ) → function_number (front ++ fs) name ≡ None → function_number fs name ≡ None
none_in [] fs name e = e
none_in (f ∷ front) fs name e = none_in front fs name (none_if (bytes_eq f.name name) (length (front ++ fs)) (function_number (front ++ fs) name) e)

others : (front fs : List Function) → AreApart (front ++ fs) → AreOthers front fs
others [] fs h = tt
others (f ∷ front) fs h = (none_in front fs f.name h.0, others front fs h.1)

module _ (p : Program) (all : CodeView) (frames args : List FrameView) where
  one_coded : (f : Function) (fs front : List Function) → p.functions ≡ front ++ fs → AreApart p.functions → BeginsCode (code_of p (f ∷ fs)) all → Begins (frames_of (f ∷ fs)) frames → Begins (all_args (f ∷ fs)) args → IsCoded all frames args p f fs
  one_coded f fs front is apart b bf ba = record {
    func = func_of p f c;
    is = subst (λ (n : ℕ). slice_get all.functions n ≡ Some (func_of p f c)) (as_many_functions p fs) (at_end c.functions all.functions (func_of p f c) b.functions);
    frame = subst (λ (n : ℕ). slice_get frames n ≡ Some (frame_of f)) (as_many_frames fs) (at_end (frames_of fs) frames (frame_of f) bf);
    arguments = subst (λ (n : ℕ). slice_get args n ≡ Some (args_of f)) (as_many_args fs) (at_end (all_args fs) args (args_of f) ba);
    numbered = λ object. numbered p f front fs object (length c.text.statements) is (others front fs (subst AreApart is apart));
    laid = λ object. emitted_function all.text (activation_of p f fs object (length c.text.statements)) (length c.text.exprs) (length c.text.arms)
        (stand_at c.text.statements (function_statements (own p f fs c) (length c.text.exprs) (length c.text.arms)) all.text.statements b.statements)
        body_there
        (stand_at c.text.arms (arms_of (length c.text.statements) f.body) all.text.arms b.arms);
    entry = refl;
    turn = refl;
    initials = subst (λ (is : List Initial). InitialsOf all.text (scope_in p f) (length f.params) f.locals is) (sym initials_there)
        (all_initials all.text (scope_in p f) (length f.params) (length c.text.exprs + length (body_exprs p f fs c)) f.locals (at_right all.text.exprs (length c.text.exprs) (body_exprs p f fs c) (initial_exprs (scope_in p f) f.locals) exprs_there));
    inline = a_value all.text (scope_in p f) (length c.text.exprs) (returned f.body) f.result_type (λ x ty e r. returned_stands all.text.exprs (names_of (own p f fs c)) (length c.text.exprs) f.body x ty e r body_there);
  }
    where
      c : CodeView
      c = code_of p fs

      exprs_there : StandAt all.text.exprs (length (code_of p fs).text.exprs) (body_exprs p f fs (code_of p fs) ++ initial_exprs (scope_in p f) f.locals)
      exprs_there = stand_at (code_of p fs).text.exprs (body_exprs p f fs (code_of p fs) ++ initial_exprs (scope_in p f) f.locals) all.text.exprs b.exprs

      body_there : StandAt all.text.exprs (length (code_of p fs).text.exprs) (body_exprs p f fs (code_of p fs))
      body_there = at_left all.text.exprs (length (code_of p fs).text.exprs) (body_exprs p f fs (code_of p fs)) (initial_exprs (scope_in p f) f.locals) exprs_there

      them : List Initial
      them = initials_of (scope_in p f) (length f.params) (length (code_of p fs).text.exprs + length (body_exprs p f fs (code_of p fs))) f.locals

      initials_there : slice_range all.initials (length (code_of p fs).initials) (length (code_of p fs).initials + length f.locals) ≡ them
      initials_there = ap (λ (n : ℕ). slice_range all.initials (length (code_of p fs).initials) (length (code_of p fs).initials + n))
          (sym (as_many_initials (scope_in p f) (length f.params) (length (code_of p fs).text.exprs + length (body_exprs p f fs (code_of p fs))) f.locals))
          ∙ at_range all.initials (length (code_of p fs).initials) them (stand_at (code_of p fs).initials them all.initials b.initials)

  all_coded : (fs front : List Function) → p.functions ≡ front ++ fs → AreApart p.functions → BeginsCode (code_of p fs) all → Begins (frames_of fs) frames → Begins (all_args fs) args → AreCoded all frames args p fs
  all_coded [] front is apart b bf ba = tt
  all_coded (f ∷ fs) front is apart b bf ba =
      let next : p.functions ≡ (front ++ f ∷ []) ++ fs = is ∙ sym (append_assoc front (f ∷ []) fs) in (
        one_coded f fs (front ++ f ∷ []) next apart b bf ba,
        all_coded fs (front ++ f ∷ []) next apart (without_last p f fs (code_of p fs) all b) (begins_front (frames_of fs) (frame_of f ∷ []) frames bf) (begins_front (all_args fs) (args_of f ∷ []) args ba),
      )

begins_all : (c : CodeView) → BeginsCode c c
begins_all c = record { statements = begins_self c.text.statements; exprs = begins_self c.text.exprs; arms = begins_self c.text.arms; initials = begins_self c.initials; functions = begins_self c.functions }

pub program_coded : (p : Program) → AreApart p.functions → AreCoded (code_of p p.functions) (frames_of p.functions) (all_args p.functions) p p.functions
program_coded p h = all_coded p (code_of p p.functions) (frames_of p.functions) (all_args p.functions) p.functions [] refl h (begins_all (code_of p p.functions)) (begins_self (frames_of p.functions)) (begins_self (all_args p.functions))

-- Ranks.
pub inline_lengths_append : (xs ys : List Func) → inline_lengths (xs ++ ys) ≡ inline_lengths xs + inline_lengths ys
inline_lengths_append [] ys = omega arith
inline_lengths_append (x ∷ xs) ys = let e : inline_lengths (xs ++ ys) ≡ inline_lengths xs + inline_lengths ys = inline_lengths_append xs ys in omega (arith, e)

-- Where something stands in a list with one more at the end.
pub data InOrLast {A : Type 0} (xs : List A) (y : A) (i : ℕ) (x : A) : Type 0 where
  inside : slice_get xs i ≡ Some x → InOrLast xs y i x
  last : i ≡ length xs → x ≡ y → InOrLast xs y i x

in_or_last : {A : Type 0} (xs : List A) (y : A) (i : ℕ) (x : A) → slice_get (xs ++ y ∷ []) i ≡ Some x → InOrLast xs y i x
in_or_last [] y zero x e = let s : y ≡ x = cc (e) in last refl (sym s)
in_or_last [] y (suc i) x e = absurd (cc (e))
in_or_last (z ∷ zs) y zero x e = inside e
in_or_last (z ∷ zs) y (suc i) x e = further (in_or_last zs y i x e)
  where
    further : InOrLast zs y i x → InOrLast (z ∷ zs) y (suc i) x
    further (inside h) = inside h
    further (last h k) = last (ap suc h) k

pub rank_most : (p : Program) (fs : List Function) (i : ℕ) (x : Func) → slice_get (code_of p fs).functions i ≡ Some x → x.rank + inline_length x.inline ≤ inline_lengths (code_of p fs).functions
rank_most p [] i x e = absurd (cc (e))
rank_most p (f ∷ fs) i x e = by_place (rank_most p fs i x) (in_or_last (code_of p fs).functions (func_of p f (code_of p fs)) i x e)
  where
    more : inline_lengths (with_function p f fs (code_of p fs)).functions ≡ inline_lengths (code_of p fs).functions + (inline_length (func_of p f (code_of p fs)).inline + 0)
    more = inline_lengths_append (code_of p fs).functions (func_of p f (code_of p fs) ∷ [])

    by_place : (slice_get (code_of p fs).functions i ≡ Some x → x.rank + inline_length x.inline ≤ inline_lengths (code_of p fs).functions) → InOrLast (code_of p fs).functions (func_of p f (code_of p fs)) i x
        → x.rank + inline_length x.inline ≤ inline_lengths (with_function p f fs (code_of p fs)).functions
    by_place h (inside k) = omega (arith, h k, more)
    by_place h (last k s) = omega (arith, more, ap (λ (y : Func). y.rank) s, ap (λ (y : Func). inline_length y.inline) s)

pub ranks_rise : (p : Program) (fs : List Function) → IsRanked (code_of p fs).functions
ranks_rise p [] = λ i j f g below e k. absurd (cc (e))
ranks_rise p (f ∷ fs) = λ i j x y below e k. by_places i j x y below (ranks_rise p fs) (in_or_last (code_of p fs).functions (func_of p f (code_of p fs)) i x e) (in_or_last (code_of p fs).functions (func_of p f (code_of p fs)) j y k)
  where
    by_places : (i j : ℕ) (x y : Func) → i < j → IsRanked (code_of p fs).functions → InOrLast (code_of p fs).functions (func_of p f (code_of p fs)) i x → InOrLast (code_of p fs).functions (func_of p f (code_of p fs)) j y → x.rank + inline_length x.inline ≤ y.rank
    by_places i j x y below h (inside a) (inside b) = h i j x y below a b
    by_places i j x y below h (inside a) (last b s) = omega (arith, rank_most p fs i x a, ap (λ (z : Func). z.rank) s)
    by_places i j x y below h (last a r) (inside b) = absurd (omega (arith, a, below, slice_get_within (code_of p fs).functions j y b))
    by_places i j x y below h (last a r) (last b s) = absurd (omega (arith, a, b, below))

-- The values in expressions are parts of the text that have nothing in common.
as_long : (place n : ℕ) → place + n - place ≡ n
as_long place n = omega arith

returned_length : (names : Names) (place : ℕ) (body : Code) (v : Option ExprTree) (type : Option TypeTree) → returned body ≡ v → names.result_type ≡ type → inline_length (inline_of names.scope place v type) ≤ length (exprs_of names body)
returned_length names place body None type e r = omega arith
returned_length names place body (Some x) None e r = omega arith
returned_length names place body (Some x) (Some type) e r =
    let one : exprs_of names body ≡ return_exprs names names.result_type (Some x) ++ [] = ap (exprs_of names) (one_return body x e) in
    let all : length (exprs_of names body) ≡ length (value_code names.scope x) = ap length (one ∙ (append-nil (return_exprs names names.result_type (Some x)) ∙ ap (λ (o : Option TypeTree). return_exprs names o (Some x)) r)) in
    omega (arith, all, as_long place (length (value_code names.scope x)))

pub inline_lengths_within : (p : Program) (fs : List Function) → inline_lengths (code_of p fs).functions ≤ length (code_of p fs).text.exprs
inline_lengths_within p [] = omega arith
inline_lengths_within p (f ∷ fs) =
    let before : inline_lengths (code_of p fs).functions ≤ length (code_of p fs).text.exprs = inline_lengths_within p fs in
    let now : inline_lengths (with_function p f fs (code_of p fs)).functions ≡ inline_lengths (code_of p fs).functions + (inline_length (func_of p f (code_of p fs)).inline + 0) = inline_lengths_append (code_of p fs).functions (func_of p f (code_of p fs) ∷ []) in
    let put : length (with_function p f fs (code_of p fs)).text.exprs ≡ length (code_of p fs).text.exprs + length (body_exprs p f fs (code_of p fs) ++ initial_exprs (scope_in p f) f.locals) = length-append (code_of p fs).text.exprs (body_exprs p f fs (code_of p fs) ++ initial_exprs (scope_in p f) f.locals) in
    let own_put : length (body_exprs p f fs (code_of p fs) ++ initial_exprs (scope_in p f) f.locals) ≡ length (body_exprs p f fs (code_of p fs)) + length (initial_exprs (scope_in p f) f.locals) = length-append (body_exprs p f fs (code_of p fs)) (initial_exprs (scope_in p f) f.locals) in
    let value : inline_length (func_of p f (code_of p fs)).inline ≤ length (body_exprs p f fs (code_of p fs)) = returned_length (names_of (own p f fs (code_of p fs))) (length (code_of p fs).text.exprs) f.body (returned f.body) f.result_type refl refl in
    omega (arith, before, now, put, own_put, value)
