-- The rules of control of the unit form: jumps, loops, cases and where they stand.
use Rattle.std.proofs.Common.{◌≡◌, ℕ, Bool, true, false, ◌&&◌, List, [], ◌∷◌, ◌++◌, Option, Some, None, refl, arith}
use Rattle.std.specs.Prelude.{if◌then◌else◌, nat_lt, slice_get}
use Rattle.std.proofs.lemmas.Bool.{lt-ltb}
use Rattle.wf_base.specs.declared.marks.Mark.{Mark}
use Rattle.wf_base.specs.declared.marks.Mark.TheVariants.{Pure, Impure, Coroutine}
use Rattle.wf_base.specs.Effects.{allows}
use Rattle.wf_ast.specs.TypedPackage.{MethodTree}
use Rattle.wf_ast.specs.TypedTree.{Simple, break_from, continue_in, assign, await, perform, invoke, give_back, yield, claim, Target, Called, ValueTree, Site, Block, end, plain, choose, loop}
use Rattle.wf_ast.specs.WellTyped.{Context, is_coroutine, same_mark, number_of, well_awaited, well_invoked, well_simple, well_cond, well_block}
use Rattle.wf_ast.proofs.Arena.{both_true}
use Rattle.wf_meaning.specs.Remaining.{is_point, hands_on, points_in}
use Rattle.c_text.specs.declared.kinds.CNumber.{CNumber}
use Rattle.c_text.specs.CTree.{Code, finish, nested, empty, call, jump, branch, repeat, select, leave, case_label, default_label, name_label}
use Rattle.c_text.specs.CTree as tree
use Rattle.c_meaning.specs.CStep.{Continuation, stop, behind, again, Place, at, place_weight, by_name, find}
use Rattle.c_meaning.specs.UnitForm.{Checked, may_loop, formed_jump, cases_of, formed_cases, formed_code}
use Rattle.wf_lower_laws.specs.JumpLaw.{LeadsBehind}
use Rattle.wf_lower_laws.specs.FormLaw.{typed_code}
use Rattle.wf_lower_laws.proofs.Everywhere.{Everywhere}
use Rattle.wf_lower_laws.proofs.Names.{both_hold}
use Rattle.wf_lower_laws.proofs.Apart.{right_or}

-- What is asked of jumps, loops and switches.
abbrev pub Controls : Checked → Code → Continuation → Type 0
Controls c (jump label rest) k = formed_jump c (at (jump label rest) k) (find (by_name label) c.body stop) ≡ true
Controls c (repeat test body rest) k = may_loop c.linkage ≡ true
Controls c (select on body rest) k = formed_cases (cases_of body) ≡ true
Controls c code k = Unit {0}

pub jump_formed : (c : Checked) (from : Place) (o : Option Place) → LeadsBehind from o → formed_jump c from o ≡ true
jump_formed c from None h = absurd h
jump_formed c from (Some target) h = right_or (may_loop c.linkage) (nat_lt (place_weight target) (place_weight from)) (lt-ltb _ _ h)

-- Cases stand inside a `switch`.
abbrev pub CasesIn : Bool → Code → Type 0
CasesIn s finish = Unit {0}
CasesIn s (nested inner rest) = CasesIn s inner × CasesIn s rest
CasesIn s (empty rest) = CasesIn s rest
CasesIn s (tree.assign target value rest) = CasesIn s rest
CasesIn s (call target function given rest) = CasesIn s rest
CasesIn s (jump label rest) = CasesIn s rest
CasesIn s (branch test body otherwise other rest) = CasesIn s body × (CasesIn s other × CasesIn s rest)
CasesIn s (repeat test body rest) = CasesIn s body × CasesIn s rest
CasesIn s (select on body rest) = CasesIn s rest
CasesIn s (leave value rest) = CasesIn s rest
CasesIn s (case_label n rest) = (s ≡ true) × CasesIn s rest
CasesIn s (default_label rest) = (s ≡ true) × CasesIn s rest
CasesIn s (name_label name rest) = CasesIn s rest

pub cases_inside : (code : Code) → CasesIn true code
cases_inside finish = tt
cases_inside (nested inner rest) = (cases_inside inner, cases_inside rest)
cases_inside (empty rest) = cases_inside rest
cases_inside (tree.assign target value rest) = cases_inside rest
cases_inside (call target function given rest) = cases_inside rest
cases_inside (jump label rest) = cases_inside rest
cases_inside (branch test body otherwise other rest) = (cases_inside body, (cases_inside other, cases_inside rest))
cases_inside (repeat test body rest) = (cases_inside body, cases_inside rest)
cases_inside (select on body rest) = cases_inside rest
cases_inside (leave value rest) = cases_inside rest
cases_inside (case_label n rest) = (refl, cases_inside rest)
cases_inside (default_label rest) = (refl, cases_inside rest)
cases_inside (name_label name rest) = cases_inside rest

none_both : (xs ys : List CNumber) → xs ++ ys ≡ [] → (xs ≡ []) × (ys ≡ [])
none_both [] ys h = (refl, h)
none_both (x ∷ xs) ys h = absurd (cc h)

-- A block without cases needs none round it.
pub no_cases_in : (code : Code) → (cases_of code).numbers ≡ [] → (cases_of code).defaults ≡ 0 → CasesIn false code
no_cases_in finish h j = tt
no_cases_in (nested inner rest) h j =
    let p = none_both (cases_of inner).numbers (cases_of rest).numbers h in
    (no_cases_in inner p.0 (omega (arith, j)), no_cases_in rest p.1 (omega (arith, j)))
no_cases_in (empty rest) h j = no_cases_in rest h j
no_cases_in (tree.assign target value rest) h j = no_cases_in rest h j
no_cases_in (call target function given rest) h j = no_cases_in rest h j
no_cases_in (jump label rest) h j = no_cases_in rest h j
no_cases_in (branch test body otherwise other rest) h j =
    let p = none_both (cases_of body).numbers ((cases_of other).numbers ++ (cases_of rest).numbers) h in
    let q = none_both (cases_of other).numbers (cases_of rest).numbers p.1 in
    (no_cases_in body p.0 (omega (arith, j)), (no_cases_in other q.0 (omega (arith, j)), no_cases_in rest q.1 (omega (arith, j))))
no_cases_in (repeat test body rest) h j =
    let p = none_both (cases_of body).numbers (cases_of rest).numbers h in
    (no_cases_in body p.0 (omega (arith, j)), no_cases_in rest p.1 (omega (arith, j)))
no_cases_in (select on body rest) h j = no_cases_in rest h j
no_cases_in (leave value rest) h j = no_cases_in rest h j
no_cases_in (case_label n rest) h j = absurd (cc h)
no_cases_in (default_label rest) h j = absurd (omega (arith, j))
no_cases_in (name_label name rest) h j = no_cases_in rest h j

-- All rules together.
pub formed : (c : Checked) (s : Bool) (code : Code) (k : Continuation) → Everywhere (Controls c) code k → CasesIn s code → typed_code c code ≡ true → formed_code c s code k ≡ true
formed c s finish k e i t = refl
formed c s (nested inner rest) k e i t =
    let p = both_true (typed_code c inner) (typed_code c rest) t in
    both_hold (formed_code c s inner (behind finish rest k)) _ (formed c s inner (behind finish rest k) e.1.0 i.0 p.0) (formed c s rest k e.1.1 i.1 p.1)
formed c s (empty rest) k e i t = formed c s rest k e.1 i t
formed c s (tree.assign target value rest) k e i t =
    let p = both_true _ (typed_code c rest) t in
    both_hold _ (formed_code c s rest k) p.0 (formed c s rest k e.1 i p.1)
formed c s (call target function given rest) k e i t =
    let p = both_true _ (typed_code c rest) t in
    both_hold _ (formed_code c s rest k) p.0 (formed c s rest k e.1 i p.1)
formed c s (jump label rest) k e i t = both_hold _ (formed_code c s rest k) e.0 (formed c s rest k e.1 i t)
formed c s (branch test body otherwise other rest) k e i t =
    let p = both_true _ (typed_code c body && (typed_code c other && typed_code c rest)) t in
    let q = both_true (typed_code c body) (typed_code c other && typed_code c rest) p.1 in
    let r = both_true (typed_code c other) (typed_code c rest) q.1 in
    both_hold _ _ p.0 (both_hold (formed_code c s body (behind other rest k)) _ (formed c s body (behind other rest k) e.1.0 i.0 q.0)
    (both_hold (formed_code c s other (behind finish rest k)) _ (formed c s other (behind finish rest k) e.1.1.0 i.1.0 r.0) (formed c s rest k e.1.1.1 i.1.1 r.1)))
formed c s (repeat test body rest) k e i t =
    let p = both_true _ (typed_code c body && typed_code c rest) t in
    let q = both_true (typed_code c body) (typed_code c rest) p.1 in
    both_hold _ _ e.0 (both_hold _ _ p.0 (both_hold (formed_code c s body (again test body (behind finish rest k))) _ (formed c s body (again test body (behind finish rest k)) e.1.0 i.0 q.0) (formed c s rest k e.1.1 i.1 q.1)))
formed c s (select on body rest) k e i t =
    let p = both_true _ (typed_code c body && typed_code c rest) t in
    let q = both_true (typed_code c body) (typed_code c rest) p.1 in
    both_hold _ _ p.0 (both_hold _ _ e.0 (both_hold (formed_code c true body (behind finish rest k)) _ (formed c true body (behind finish rest k) e.1.0 (cases_inside body) q.0) (formed c s rest k e.1.1 i q.1)))
formed c s (leave value rest) k e i t =
    let p = both_true _ (typed_code c rest) t in
    both_hold _ (formed_code c s rest k) p.0 (formed c s rest k e.1 i p.1)
formed c s (case_label n rest) k e i t = both_hold s (formed_code c s rest k) i.0 (formed c s rest k e.1 i.1 t)
formed c s (default_label rest) k e i t = both_hold s (formed_code c s rest k) i.0 (formed c s rest k e.1 i.1 t)
formed c s (name_label name rest) k e i t = formed c s rest k e.1 i t

-- A method that is no coroutine has no points.
no_point : (b : Bool) (site : Site) (xs : List Site) → b ≡ false → xs ≡ [] → (if b then site ∷ xs else xs) ≡ []
no_point true site xs h j = absurd (cc h)
no_point false site xs h j = j

no_call : (caller mark : Mark) (keep : Bool) → is_coroutine caller ≡ false → allows caller mark ≡ true → hands_on keep mark ≡ false
no_call Coroutine mark keep h a = absurd (cc h)
no_call Pure Pure true h a = refl
no_call Pure Pure false h a = refl
no_call Pure Impure true h a = refl
no_call Pure Impure false h a = refl
no_call Pure Coroutine keep h a = absurd (cc a)
no_call Impure Pure true h a = refl
no_call Impure Pure false h a = refl
no_call Impure Impure true h a = refl
no_call Impure Impure false h a = refl
no_call Impure Coroutine keep h a = absurd (cc a)

invoke_is_none : (c : Context) (t : Target) (keep : Bool) (mark : Mark) (called : Called) (given_args : List ValueTree) (callee : Option MethodTree) → is_coroutine c.method.mark ≡ false
    → well_invoked c t keep mark called given_args callee ≡ true → hands_on keep mark ≡ false
invoke_is_none c t keep mark called given_args None h w = absurd (cc w)
invoke_is_none c t keep mark called given_args (Some callee) h w =
    let p = both_true (same_mark mark callee.mark) _ w in
    let q = both_true (allows c.method.mark mark) _ p.1 in
    no_call c.method.mark mark keep h q.0

simple_is_none : (c : Context) (loops : List ℕ) (s : Simple) → is_coroutine c.method.mark ≡ false → well_simple c loops s ≡ true → is_point s ≡ false
simple_is_none c loops (assign t op v) h w = refl
simple_is_none c loops (await place t a awaited) h w = absurd (cc (h, (both_true (is_coroutine c.method.mark) (well_awaited c t a awaited) w).0))
simple_is_none c loops (perform place t written) h w = refl
simple_is_none c loops (invoke at t keep mark called given_args) h w = invoke_is_none c t keep mark called given_args (slice_get c.within.methods (number_of called)) h w
simple_is_none c loops (break_from v) h w = refl
simple_is_none c loops (continue_in v) h w = refl
simple_is_none c loops (give_back v) h w = refl
simple_is_none c loops (yield n) h w = absurd (cc (h, (both_true (is_coroutine c.method.mark) _ w).0))
simple_is_none c loops (claim goal ax) h w = refl

join_none : (xs ys : List Site) → xs ≡ [] → ys ≡ [] → xs ++ ys ≡ []
join_none xs ys h j = rw (h, j) refl

pub no_points : (c : Context) (loops : List ℕ) (b : Block) → is_coroutine c.method.mark ≡ false → well_block c loops b ≡ true → points_in b ≡ []
no_points c loops end h w = refl
no_points c loops (plain site s rest) h w =
    let p = both_true (well_simple c loops s) (well_block c loops rest) w in
    no_point (is_point s) site (points_in rest) (simple_is_none c loops s h p.0) (no_points c loops rest h p.1)
no_points c loops (choose site chained cond a b rest) h w =
    let p = both_true (well_cond c cond) (well_block c loops a && (well_block c loops b && well_block c loops rest)) w in
    let q = both_true (well_block c loops a) (well_block c loops b && well_block c loops rest) p.1 in
    let r = both_true (well_block c loops b) (well_block c loops rest) q.1 in
    join_none (points_in a) (points_in b ++ points_in rest) (no_points c loops a h q.0) (join_none (points_in b) (points_in rest) (no_points c loops b h r.0) (no_points c loops rest h r.1))
no_points c loops (loop site head body rest) h w =
    let p = (both_true (well_cond c head.cond) _ w).1 in
    let q = (both_true _ _ p).1 in
    let r = (both_true _ _ q).1 in
    let u = both_true (well_block c (site.number ∷ loops) body) (well_block c loops rest) r in
    join_none (points_in body) (points_in rest) (no_points c (site.number ∷ loops) body h u.0) (no_points c loops rest h u.1)
