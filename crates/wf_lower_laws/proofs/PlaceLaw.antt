-- Where the labels of a method's body lead in the text of its package.
use Rattle.std.proofs.Common.{◌≡◌, ℕ, zero, suc, ◌<◌, ◌≤◌, ◌^◌, Bool, true, false, ◌&&◌, ◌||◌, List, [], ◌∷◌, ◌++◌, length, Option, Some, None, IfSome, nat_eq, refl, sym, ap, ◌∙◌, subst, arith}
use Rattle.std.specs.Prelude.{if◌then◌else◌, option_map, slice_get}
use Rattle.std.proofs.lemmas.Bool.Decides.{nat_tests}
use Rattle.std.proofs.lemmas.List.Sums.{count_by-le-length}
use Rattle.std.proofs.lemmas.Option.{slice_get_within}
use Rattle.wf_num.specs.declared.c_arithmetic.CTy.TheVariants as ty
use Rattle.wf_ast.specs.StatementOrder.{stands_before}
use Rattle.wf_ast.specs.TypedTree.{Simple, Site, Block, end, plain, choose, loop}
use Rattle.wf_ast.specs.TypedPackage.{MethodTree, PackageTree, package_of}
use Rattle.wf_ast.specs.WellTyped.{is_coroutine, breaks, well_typed}
use Rattle.wf_ast.proofs.Arena.{both_true}
use Rattle.wf_meaning.specs.Remaining.{Items, points_in, number_of, marker_of, rest_in}
use Rattle.wf_meaning.specs.Remaining as remaining
use Rattle.c_text.specs.declared.kinds.CNumber.TheVariants.{Int}
use Rattle.c_text.specs.CTree.{ExprTree, Code, finish, empty, assign, select, case_label, name_label, ItemTree}
use Rattle.c_meaning.specs.CValues.{number}
use Rattle.c_meaning.specs.CStep.{Continuation, stop, behind, Place, at, by_case, find, here, is_case, first_of}
use Rattle.c_meaning.specs.TextOrder.{statements}
use Rattle.wf_exprs.specs.Names.{again_label, behind_label, point_field}
use Rattle.wf_exprs.specs.Words.{num, of_self}
use Rattle.wf_exprs.specs.Helpers.{all_saturating}
use Rattle.wf_lower_stmts.specs.Forms.{Form, form_of, resume_local, when_some}
use Rattle.wf_lower_stmts.specs.Lower.{lower, continues, behind_here, ending, Trail, top, within_if, in_loop, behind_of, tail_of, lower_trail, Point, first_point, point_in, items_of, point_place, Loop, first_loop, this_loop, loop_in, again_place, behind_place}
use Rattle.wf_lower_stmts.specs.Statements.{awoken}
use Rattle.wf_lower_stmts.specs.Laws.{AreInts, AreSpelt}
use Rattle.wf_lower_stmts.proofs.Labels.{points_agree}
use Rattle.wf_lower_stmts.proofs.Cases.{resumes_at_point}
use Rattle.wf_lower_stmts.proofs.LoopLabels.{continues_at, breaks_at}
use Rattle.wf_lower.specs.Bodies.{body_code, touched, resumed, own_names, statements_of, body_function, functions_of}
use Rattle.wf_lower.specs.Unit.{io_buffer_item, struct_items, initialize_functions, method_functions, all_functions, used_texts, used_helpers, lowered_unit}
use Rattle.wf_lower.proofs.Small.{few_points}
use Rattle.wf_lower_laws.specs.LoopLaw.{broken_loop, continued_loop, AllJumps, marker_at, IsMarked}
use Rattle.wf_lower_laws.specs.PlaceLaw.{tail_at, Follows, HasBody, switched, ResumesAt, ResumesAtPoints, BodiesResume, BreaksTo, ContinuesTo, BreaksBehindLoops, ContinuesAtLoops, BodiesBreak, BodiesContinue}
use Rattle.wf_lower_laws.proofs.Apart.{has}
use Rattle.wf_lower_laws.proofs.Bodies.{touches, takes_number}
use Rattle.wf_lower_laws.proofs.Straight.{Straight, over, assigned, calling, leaving, guarded}
use Rattle.wf_lower_laws.proofs.Functions.{body_finds}
use Rattle.wf_lower_laws.proofs.JumpLaw.{body_of}
use Rattle.wf_lower_laws.proofs.Markers.{loops_are_spelt, loops_are_marked}
use Rattle.wf_lower_laws.proofs.Orders.{methods_ordered, one_number}

-- ---- what follows

-- By the trail it is what lowering says.
tail_same : (f : Form) (t : Trail) → tail_of f t ≡ tail_at f (behind_of t)
tail_same f top = refl
tail_same f (within_if passed rest t) = refl
tail_same f (in_loop site head body rest t) = refl

follows : (f : Form) (t : Trail) → Follows f (behind_of t) (lower_trail f (number_of f.method.body) t)
follows f top = refl
follows f (within_if passed rest t) = (ap (λ tail. lower f (number_of f.method.body) rest tail) (tail_same f t), follows f t)
follows f (in_loop site head body rest t) =
    (refl, (refl, (ap (λ tail. behind_here site body (lower f (number_of f.method.body) rest tail)) (tail_same f t), follows f t)))

-- ---- a body's item

module _ {X : Type 0} where
  -- An item of a list, wherever it stands.
  abbrev Holds : List X → X → Type 0
  Holds xs x = (i : ℕ) × (slice_get xs i ≡ Some x)

  later : (xs ys : List X) (x : X) → Holds ys x → Holds (xs ++ ys) x
  later [] ys x h = h
  later (y ∷ xs) ys x h = let r = later xs ys x h in (suc r.0, r.1)

module _ (p : PackageTree) where
  its_body : (n : ℕ) (m : MethodTree) (o : Option MethodTree) (others : List ItemTree) → o ≡ Some m → Holds (functions_of p n o ++ others) (body_function (form_of p m))
  its_body n m None others e = absurd (cc e)
  its_body n m (Some x) others e =
      let same : x ≡ m = cc e in
      let P : MethodTree → Type 0 = λ z. Holds (functions_of p n (Some x) ++ others) (body_function (form_of p z)) in
      subst P same (zero, refl)

  in_methods : (n : ℕ) (m : MethodTree) → slice_get p.methods n ≡ Some m → (ns : List ℕ) → has ns n ≡ true → Holds (method_functions p ns) (body_function (form_of p m))
  in_methods n m is [] h = absurd (cc h)
  in_methods n m is (k ∷ ns) h = by (nat_eq n k) refl h (λ g. in_methods n m is ns g)
    where
      by : (b : Bool) → nat_eq n k ≡ b → (b || has ns n) ≡ true → (has ns n ≡ true → Holds (method_functions p ns) (body_function (form_of p m))) → Holds (method_functions p (k ∷ ns)) (body_function (form_of p m))
      by true e g more =
          let same : n ≡ k = one_number n k e in
          its_body k m (slice_get p.methods k) (method_functions p ns) (sym (ap (λ i. slice_get p.methods i) same) ∙ is)
      by false e g more = later (functions_of p k (slice_get p.methods k)) (method_functions p ns) (body_function (form_of p m)) (more g)

  body_there : well_typed p ≡ true → (n : ℕ) (m : MethodTree) → slice_get p.methods n ≡ Some m → Holds (lowered_unit p) (body_function (form_of p m))
  unfolding lowered_unit
  body_there typed n m is =
      let it = body_function (form_of p m) in
      let own = in_methods n m is p.order ((methods_ordered p typed).each.all n (slice_get_within p.methods n m is)) in
      later (io_buffer_item ∷ struct_items p p.struct_order) _ it
      (later (used_texts (all_functions p) 0 p.statuses) _ it
      (later (used_helpers (all_functions p) all_saturating) _ it (later (initialize_functions p p.struct_order) (method_functions p p.order) it own)))

  has_body : well_typed p ≡ true → (n : ℕ) (m : MethodTree) (P : Code → Type 0) → slice_get p.methods n ≡ Some m → P (body_of (form_of p m)) → HasBody p m P
  has_body typed n m P is h =
      let it = body_there typed n m is in
      record { place = it.0; code = body_of (form_of p m); there = it.1; holds = h }

-- ---- points

-- A statement that stands after such others is one of theirs.
stands_after : (rest code : Code) → Straight rest code → (k : Continuation) (it : Place) → Holds (statements rest k) it → Holds (statements code k) it
stands_after rest _ over k it h = h
stands_after rest _ (assigned target value code s) k it h = let r = stands_after rest code s k it h in (suc r.0, r.1)
stands_after rest _ (calling target function given code s) k it h = let r = stands_after rest code s k it h in (suc r.0, r.1)
stands_after rest _ (leaving value code s) k it h = let r = stands_after rest code s k it h in (suc r.0, r.1)
stands_after rest _ (guarded test body code t s) k it h =
    let r = later (statements body (behind finish code k)) (statements code k) it (stands_after rest code s k it h) in (suc r.0, r.1)

-- The `switch` of a coroutine's body.
module _ (f : Form) where
  switch_there : (coroutine : Bool) (target value test on : ExprTree) (own : Code) (names : List (List ℕ)) (code : Code) → coroutine ≡ true
      → Holds (statements (touched names code (if coroutine then assign target value (when_some test (resumed f) (select on (case_label (Int 0) (empty own)) (ending f))) else own)) stop)
      (at (select on (case_label (Int 0) (empty own)) (ending f)) stop)
  switch_there false target value test on own names code e = absurd (cc e)
  switch_there true target value test on own names code e =
      let switch = select on (case_label (Int 0) (empty own)) (ending f) in
      let body = assign target value (when_some test (resumed f) switch) in
      stands_after body (touched names code body) (touches names code body) stop (at switch stop)
      (stands_after switch body (takes_number f target value test switch) stop (at switch stop) (zero, refl))

-- The point with a number has this number.
one_of : (k : ℕ) (n : Site → ℕ) (a b : Option Point) (it : Point) → ((it : Point) → a ≡ Some it → n it.site ≡ k) → ((it : Point) → b ≡ Some it → n it.site ≡ k) → first_point a b ≡ Some it → n it.site ≡ k
one_of k n None b it h j e = j it e
one_of k n (Some x) b it h j e = h it e

own_number : (n : Site → ℕ) (k : ℕ) (b : Block) (t : Trail) (it : Point) → point_in n k b t ≡ Some it → n it.site ≡ k
own_number n k end t it e = absurd (cc e)
own_number n k (plain site s rest) t it e = by (remaining.is_point s && nat_eq (n site) k) refl e (own_number n k rest t it)
  where
    here : Point
    here = record { site = site; statement = s; rest = rest; trail = t }

    by : (b : Bool) → (remaining.is_point s && nat_eq (n site) k) ≡ b → (if b then Some here else point_in n k rest t) ≡ Some it → (point_in n k rest t ≡ Some it → n it.site ≡ k) → n it.site ≡ k
    by false c g more = more g
    by true c g more =
        let same : here ≡ it = cc g in
        let P : Point → Type 0 = λ z. n z.site ≡ k in
        subst P same (one_number (n site) k (both_true (remaining.is_point s) (nat_eq (n site) k) c).1)
own_number n k (choose site chained c a b rest) t it e =
    one_of k n (point_in n k a (within_if b rest t)) (first_point (point_in n k b (within_if end rest t)) (point_in n k rest t)) it (own_number n k a (within_if b rest t))
    (λ it e. one_of k n (point_in n k b (within_if end rest t)) (point_in n k rest t) it (own_number n k b (within_if end rest t)) (own_number n k rest t) e) e
own_number n k (loop site head body rest) t it e =
    one_of k n (point_in n k body (in_loop site head body rest t)) (point_in n k rest t) it (own_number n k body (in_loop site head body rest t)) (own_number n k rest t) e

-- Its `case` isn't the first one.
past_first : (k : ℕ) (place : Place) (o : Option Place) → 0 < k → here (is_case (by_case (number ty.Int k)) (Int 0)) place o ≡ o
past_first zero place o h = absurd (omega (arith, h))
past_first (suc k) place o h =
    let e : nat_eq (suc k) 0 ≡ false = grind (arith, nat_tests) in
    ap (λ b. here b place o) e

module _ (f : Form) (coroutine : is_coroutine f.method.mark ≡ true) (ints : AreInts (number_of f.method.body)) where
  at_its_point : (k : ℕ) (it : Point) → point_in (number_of f.method.body) k f.method.body top ≡ Some it
      → ResumesAt f k (items_of it) (find (by_case (number ty.Int k)) (switched f) (behind finish (ending f) stop))
  at_its_point k it e =
      let own : number_of f.method.body it.site ≡ k = own_number (number_of f.method.body) k f.method.body top it e in
      let trail : lower_trail f (number_of f.method.body) top ≡ behind finish (ending f) stop = ap (λ b. if b then behind finish (ending f) stop else stop) coroutine in
      let code = statements_of f in
      record {
        site = it.site;
        statement = it.statement;
        rest = it.rest;
        first = refl;
        follows = lower_trail f (number_of f.method.body) it.trail;
        is =
            past_first k (at (switched f) (behind finish (ending f) stop)) (find (by_case (number ty.Int k)) code (behind finish (ending f) stop)) (omega (arith, own))
            ∙ (ap (λ c. find (by_case (number ty.Int k)) code c) (sym trail)
            ∙ (resumes_at_point f (number_of f.method.body) k ints f.method.body top
            ∙ (ap (λ o. option_map (point_place f (number_of f.method.body) k) o) e
            ∙ ap (λ tail. Some (at (case_label (Int k) (empty finish)) (behind finish (awoken f k it.statement (lower f (number_of f.method.body) it.rest tail)) (lower_trail f (number_of f.method.body) it.trail)))) (tail_same f it.trail))));
        after = follows f it.trail;
      }

  resumes : (k : ℕ) (items : Items) → remaining.rest f.method.body k ≡ Some items → ResumesAt f k items (find (by_case (number ty.Int k)) (switched f) (behind finish (ending f) stop))
  unfolding remaining.rest
  resumes k items e = by (point_in (number_of f.method.body) k f.method.body top) refl
    where
      agrees : option_map items_of (point_in (number_of f.method.body) k f.method.body top) ≡ Some items
      agrees = points_agree (number_of f.method.body) k f.method.body top ∙ e

      by : (o : Option Point) → point_in (number_of f.method.body) k f.method.body top ≡ o → ResumesAt f k items (find (by_case (number ty.Int k)) (switched f) (behind finish (ending f) stop))
      by None g = absurd (cc (agrees, g))
      by (Some it) g =
          let same : items_of it ≡ items = cc (agrees, g) in
          let P : Items → Type 0 = λ z. ResumesAt f k z (find (by_case (number ty.Int k)) (switched f) (behind finish (ending f) stop)) in
          subst P same (at_its_point k it g)

  resumes_at_points : ResumesAtPoints f (body_of f)
  resumes_at_points =
      let it = switch_there f (is_coroutine f.method.mark) (of_self (point_field f.method.name)) (num 0) resume_local resume_local (statements_of f) (own_names f) (body_code f) coroutine in
      record { place = it.0; switches = it.1; resumes = resumes }

few_ints : (body : Block) → length (points_in body) ≤ 1024 → AreInts (number_of body)
few_ints body h site = omega (arith, h, count_by-le-length (λ point. stands_before point.at site.at) (points_in body))

pub bodies_resume : BodiesResume
bodies_resume nodes n m typed few is coroutine =
    let p = package_of nodes in
    has_body p typed.rules n m (ResumesAtPoints (form_of p m)) is (resumes_at_points (form_of p m) coroutine (few_ints m.body (few_points nodes typed few n m is)))

-- ---- loops

-- The loop of a label has the number that the label has.
one_loop : (w : ℕ) (a b : Option Loop) (it : Loop) → ((it : Loop) → a ≡ Some it → (it.site.number ≡ w) × (w < 2 ^ 64)) → ((it : Loop) → b ≡ Some it → (it.site.number ≡ w) × (w < 2 ^ 64)) → first_loop a b ≡ Some it
    → (it.site.number ≡ w) × (w < 2 ^ 64)
one_loop w None b it h j e = j it e
one_loop w (Some x) b it h j e = h it e

its_number : (jumps : ℕ → Block → Bool) (w : ℕ) (b : Block) (t : Trail) → AreSpelt b → (it : Loop) → loop_in jumps w b t ≡ Some it → (it.site.number ≡ w) × (w < 2 ^ 64)
its_number jumps w end t s it e = absurd (cc e)
its_number jumps w (plain site x rest) t s it e = its_number jumps w rest t s it e
its_number jumps w (choose site chained c a b rest) t s it e =
    one_loop w (loop_in jumps w a (within_if b rest t)) (first_loop (loop_in jumps w b (within_if end rest t)) (loop_in jumps w rest t)) it (its_number jumps w a (within_if b rest t) s.0)
    (λ it e. one_loop w (loop_in jumps w b (within_if end rest t)) (loop_in jumps w rest t) it (its_number jumps w b (within_if end rest t) s.1.0) (its_number jumps w rest t s.1.1) e) e
its_number jumps w (loop site head body rest) t s it e =
    one_loop w (loop_in jumps w body (in_loop site head body rest t)) (first_loop (this_loop jumps w own) (loop_in jumps w rest t)) it (its_number jumps w body (in_loop site head body rest t) s.1.0)
    (λ it e. one_loop w (this_loop jumps w own) (loop_in jumps w rest t) it this (its_number jumps w rest t s.1.1) e) e
  where
    own : Loop
    own = record { site = site; head = head; body = body; rest = rest; trail = t }

    this : (it : Loop) → this_loop jumps w own ≡ Some it → (it.site.number ≡ w) × (w < 2 ^ 64)
    this it g = by (nat_eq site.number w && jumps site.number body) refl g
      where
        by : (b : Bool) → (nat_eq site.number w && jumps site.number body) ≡ b → (if b then Some own else None) ≡ Some it → (it.site.number ≡ w) × (w < 2 ^ 64)
        by false c g = absurd (cc g)
        by true c g =
            let same : own ≡ it = cc g in
            let P : Loop → Type 0 = λ z. (z.site.number ≡ w) × (w < 2 ^ 64) in
            let number : site.number ≡ w = one_number site.number w (both_true (nat_eq site.number w) (jumps site.number body) c).0 in
            subst P same (number, omega (arith, number, s.0))

-- What holds of each jump of a kind.
all_jumps : (kind : Simple → Option ℕ) (P Q : ℕ → Trail → Type 0) → ((w : ℕ) (t : Trail) → P w t → Q w t) → (b : Block) (t : Trail) → AllJumps kind P b t → AllJumps kind Q b t
all_jumps kind P Q h end t j = tt
all_jumps kind P Q h (plain site s rest) t j = (by (kind s) j.0, all_jumps kind P Q h rest t j.1)
  where
    by : (o : Option ℕ) → IfSome o (λ w. P w t) → IfSome o (λ w. Q w t)
    by None i = tt
    by (Some w) i = h w t i
all_jumps kind P Q h (choose site chained c a b rest) t j =
    (all_jumps kind P Q h a (within_if b rest t) j.0, (all_jumps kind P Q h b (within_if end rest t) j.1.0, all_jumps kind P Q h rest t j.1.1))
all_jumps kind P Q h (loop site head body rest) t j = (all_jumps kind P Q h body (in_loop site head body rest t) j.0, all_jumps kind P Q h rest t j.1)

module _ (f : Form) (spelt : AreSpelt f.method.body) where
  breaks_to : (w : ℕ) (t : Trail) → IsMarked breaks f.method.body w t → BreaksTo f (body_of f) w (behind_of t)
  breaks_to w t it =
      let own = its_number breaks w f.method.body top spelt it.it it.found in
      record {
        marker = marker_at it.it;
        marked = it.marked;
        follows = lower_trail f (number_of f.method.body) it.it.trail;
        is =
            body_finds f (behind_label w) (own_names f) (body_code f)
            ∙ (breaks_at f (number_of f.method.body) w own.1 f.method.body top spelt
            ∙ (ap (λ o. option_map (behind_place f (number_of f.method.body)) o) it.found
            ∙ (ap (λ v. Some (at (name_label (behind_label v) (empty (lower f (number_of f.method.body) it.it.rest (tail_of f it.it.trail)))) (lower_trail f (number_of f.method.body) it.it.trail))) own.0
            ∙ ap (λ tail. Some (at (name_label (behind_label w) (empty (lower f (number_of f.method.body) it.it.rest tail))) (lower_trail f (number_of f.method.body) it.it.trail))) (tail_same f it.it.trail))));
        after = follows f it.it.trail;
      }

  continues_to : (w : ℕ) (t : Trail) → IsMarked continues f.method.body w t → ContinuesTo f (body_of f) w (behind_of t)
  continues_to w t it =
      let own = its_number continues w f.method.body top spelt it.it it.found in
      let trail = in_loop it.it.site it.it.head it.it.body it.it.rest it.it.trail in
      record {
        marker = marker_at it.it;
        marked = it.marked;
        follows = lower_trail f (number_of f.method.body) trail;
        is =
            body_finds f (again_label w) (own_names f) (body_code f)
            ∙ (continues_at f (number_of f.method.body) w own.1 f.method.body top spelt tt
            ∙ (ap (λ o. first_of (option_map (again_place f (number_of f.method.body)) o) None) it.found
            ∙ ap (λ v. Some (at (name_label (again_label v) (empty finish)) (lower_trail f (number_of f.method.body) trail))) own.0));
        after = follows f trail;
      }

pub bodies_break : BodiesBreak
bodies_break nodes n m typed is =
    let p = package_of nodes in
    let f = form_of p m in
    let spelt = (loops_are_spelt nodes n m typed is).own in
    has_body p typed.rules n m (BreaksBehindLoops f) is
    (all_jumps broken_loop (IsMarked breaks m.body) (λ w t. BreaksTo f (body_of f) w (behind_of t)) (breaks_to f spelt) m.body top (loops_are_marked nodes n m typed is).at_breaks)

pub bodies_continue : BodiesContinue
bodies_continue nodes n m typed is =
    let p = package_of nodes in
    let f = form_of p m in
    let spelt = (loops_are_spelt nodes n m typed is).own in
    has_body p typed.rules n m (ContinuesAtLoops f) is
    (all_jumps continued_loop (IsMarked continues m.body) (λ w t. ContinuesTo f (body_of f) w (behind_of t)) (continues_to f spelt) m.body top (loops_are_marked nodes n m typed is).at_continues)
