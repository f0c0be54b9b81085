-- What a function's part of the code calls is what its tree calls.
use Rattle.std.proofs.Common.{◌≡◌, ℕ, ◌+◌, true, false, List, [], ◌∷◌, ◌++◌, length, Option, Some, None, refl, sym, ap, ◌∙◌, subst, arith}
use Rattle.std.specs.Prelude.{slice_get, slice_range}
use Rattle.std.specs.Option.{option_map_or}
use Rattle.std.proofs.lemmas.List.{append_assoc, length-append}
use Rattle.c_text.specs.CTree.{ExprTree, LocalTree}
use Rattle.c_meaning.specs.CTypes.{Function, CScope, ExprType, type_of}
use Rattle.c_meaning.specs.CCall.{Program, scope_in}
use Rattle.c_meaning.specs.UnitForm.{Checked}
use Rattle.c_form_stmts.specs.Lines.{LineTree, lines_of}
use Rattle.c_form_laws.specs.Places.{Has}
use Rattle.c_form_laws.specs.StatementRules.{KeepsStatement}
use Rattle.c_step_exprs.specs.Resolving.{function_number, value_code}
use Rattle.c_step_text.specs.declared.text.StmtInstr.{StmtInstr}
use Rattle.c_step_text.specs.declared.text.StmtInstr.TheVariants.{Finish}
use Rattle.c_step_text.specs.Flat.{FlatText}
use Rattle.c_step_text.specs.Layout.{Names}
use Rattle.c_step_text.specs.Acting.{names_of, end_of}
use Rattle.c_step_text.specs.Emitted.{StandAt, statements_of}
use Rattle.c_step_run.specs.declared.code.Initial.{Initial}
use Rattle.c_step_run.specs.declared.code.Func.{Func}
use Rattle.c_step_run.specs.Coding.{CodeView}
use Rattle.c_step_program.specs.Programs.{initial_exprs_of, initial_exprs, initial_span, initials_of, own, body_exprs, func_of, with_function, code_of}
use Rattle.c_step_program.proofs.Coded.{Begins, BeginsCode, as_many_functions, as_many_initials}
use Rattle.c_step_cells.specs.Chains.{optional_cells, body_cells, initials_cells, text_end, func_cells, called_cells}
use Rattle.c_step_laws.specs.Callees.{optional_callees, code_callees, local_callees, callees}
use Rattle.c_step_laws.proofs.Lists.{greatest, greatest_append, at_left, at_right, at_range, get_at, get_end}
use Rattle.c_step_laws.proofs.ExprCells.{numbered, value_cells}
use Rattle.c_step_laws.proofs.CodeCells.{Rises, AreNumbered, body_append, span_is, code_is}

begins_front : {A : Type 0} (xs these ys : List A) → Begins (xs ++ these) ys → Begins xs ys
begins_front xs these ys h = record { more = these ++ h.more; is = h.is ∙ append_assoc xs these h.more }

stand_at : {A : Type 0} (xs these ys : List A) → Begins (xs ++ these) ys → StandAt ys (length xs) these
stand_at xs these ys h = record { front = xs; rest = h.more; is = h.is ∙ append_assoc xs these h.more; size = refl }

at_end : {A : Type 0} (xs ys : List A) (x : A) → Begins (xs ++ x ∷ []) ys → slice_get ys (length xs) ≡ Some x
at_end xs ys x h = ap (λ (zs : List _). slice_get zs (length xs)) (h.is ∙ append_assoc xs (x ∷ []) h.more) ∙ get_at xs x h.more

without_last : (p : Program) (f : Function) (fs : List Function) (c all : CodeView) → BeginsCode (with_function p f fs c) all → BeginsCode c all
without_last p f fs c all h = record {
  statements = begins_front c.text.statements _ all.text.statements h.statements;
  exprs = begins_front c.text.exprs _ all.text.exprs h.exprs;
  arms = begins_front c.text.arms _ all.text.arms h.arms;
  initials = begins_front c.initials _ all.initials h.initials;
  functions = begins_front c.functions _ all.functions h.functions;
}

-- A function's part of the code.
pub record IsPart (p : Program) (all : CodeView) (f : Function) (fs : List Function) : Type 0 where
  pub func : slice_get all.functions (length fs) ≡ Some (func_of p f (code_of p fs))
  pub end : text_end all (length fs) ≡ length (code_of p (f ∷ fs)).text.statements
  pub begins : BeginsCode (code_of p (f ∷ fs)) all

module _ (p : Program) (all : CodeView) where
  abbrev EndsAt : List Function → Type 0
  EndsAt gs = (k : ℕ) → k + 1 ≡ length gs → text_end all k ≡ length (code_of p gs).text.statements

  one_there : (f : Function) (fs : List Function) → BeginsCode (code_of p (f ∷ fs)) all → slice_get all.functions (length fs) ≡ Some (func_of p f (code_of p fs))
  one_there f fs b = subst (λ (n : ℕ). slice_get all.functions n ≡ Some (func_of p f (code_of p fs))) (as_many_functions p fs) (at_end (code_of p fs).functions all.functions (func_of p f (code_of p fs)) b.functions)

  end_before : (f : Function) (fs : List Function) → BeginsCode (code_of p (f ∷ fs)) all → EndsAt fs
  end_before f fs b k is = ap (λ (o : Option Func). option_map_or (λ g. g.start) o (length all.text.statements)) (ap (slice_get all.functions) is ∙ one_there f fs b)

  pub parts_from : (after : List Function) (f : Function) (fs : List Function) → BeginsCode (code_of p (after ++ f ∷ fs)) all → EndsAt (after ++ f ∷ fs) → IsPart p all f fs
  parts_from [] f fs b e = record { func = one_there f fs b; end = e (length fs) (omega arith); begins = b }
  parts_from (a ∷ after) f fs b e = parts_from after f fs (without_last p a (after ++ f ∷ fs) (code_of p (after ++ f ∷ fs)) all b) (end_before a (after ++ f ∷ fs) b)

begins_self : {A : Type 0} (xs : List A) → xs ++ [] ≡ xs → Begins xs xs
begins_self xs e = record { more = []; is = sym e }

append_none : {A : Type 0} (xs : List A) → xs ++ [] ≡ xs
append_none [] = refl
append_none (x ∷ xs) = ap (λ ys. x ∷ ys) (append_none xs)

begins_all : (c : CodeView) → BeginsCode c c
begins_all c = record { statements = begins_self c.text.statements (append_none _); exprs = begins_self c.text.exprs (append_none _); arms = begins_self c.text.arms (append_none _); initials = begins_self c.initials (append_none _); functions = begins_self c.functions (append_none _) }

ends_all : (p : Program) (gs : List Function) → EndsAt p (code_of p gs) gs
ends_all p gs k is =
    ap (λ (o : Option Func). option_map_or (λ g. g.start) o (length (code_of p gs).text.statements))
    (ap (slice_get (code_of p gs).functions) (is ∙ sym (as_many_functions p gs)) ∙ get_end (code_of p gs).functions)

pub part_of : (p : Program) (after : List Function) (f : Function) (fs : List Function) → p.functions ≡ after ++ f ∷ fs → IsPart p (code_of p p.functions) f fs
part_of p after f fs is =
    parts_from p (code_of p p.functions) after f fs
    (subst (λ (gs : List Function). BeginsCode (code_of p gs) (code_of p p.functions)) is (begins_all (code_of p p.functions)))
    (subst (λ (gs : List Function). EndsAt p (code_of p p.functions) gs) is (ends_all p p.functions))

-- Initial values.
abbrev pub HasInitial : CScope → Option ExprTree → Type 0
HasInitial scope None = Unit {0}
HasInitial scope (Some e) = (type : ExprType) × (type_of scope e ≡ Some type)

abbrev pub HaveInitials : CScope → List LocalTree → Type 0
HaveInitials scope [] = Unit {0}
HaveInitials scope (l ∷ ls) = HasInitial scope l.initial × HaveInitials scope ls

module _ (t : FlatText) (table : List ℕ) (scope : CScope) (of : List ℕ → ℕ) (alike : (name : List ℕ) → numbered table (function_number scope.functions name) ≡ of name) where
  initial_is : (place : ℕ) (o : Option ExprTree) → HasInitial scope o → StandAt t.exprs place (initial_exprs_of scope o) → optional_cells t table (initial_span scope place o) ≡ greatest of (optional_callees o)
  initial_is place None h x = refl
  initial_is place (Some e) h x = span_is t table place (value_code scope e) x ∙ value_cells table scope of alike e h.0 h.1

  pub initials_are : (field place : ℕ) (ls : List LocalTree) → HaveInitials scope ls → StandAt t.exprs place (initial_exprs scope ls) → initials_cells t table (initials_of scope field place ls) ≡ greatest of (local_callees ls)
  initials_are field place [] h x = refl
  initials_are field place (l ∷ ls) h x =
      let a = initial_is place l.initial h.0 (at_left t.exprs place (initial_exprs_of scope l.initial) (initial_exprs scope ls) x) in
      let b = initials_are (field + 1) (place + length (initial_exprs_of scope l.initial)) ls h.1 (at_right t.exprs place (initial_exprs_of scope l.initial) (initial_exprs scope ls) x) in
      omega (arith, a, b, greatest_append of (optional_callees l.initial) (local_callees ls))

module _ (p : Program) (all : CodeView) (f : Function) (fs : List Function) (part : IsPart p all f fs) (table : List ℕ) (of : List ℕ → ℕ) (c : Checked) where
  abbrev front : CodeView
  front = code_of p fs

  abbrev names : Names
  names = names_of (own p f fs front)

  abbrev body : List StmtInstr
  body = statements_of names (length front.text.statements) (end_of (own p f fs front)) (length front.text.exprs) (length front.text.arms) f.body

  abbrev them : List Initial
  them = initials_of (scope_in p f) (length f.params) (length front.text.exprs + length (body_exprs p f fs front)) f.locals

  statements_there : slice_range all.text.statements (length front.text.statements) (length (front.text.statements ++ (body ++ Finish ∷ []))) ≡ body ++ Finish ∷ []
  statements_there =
      ap (slice_range all.text.statements (length front.text.statements)) (length-append front.text.statements (body ++ Finish ∷ []))
      ∙ at_range all.text.statements (length front.text.statements) (body ++ Finish ∷ []) (stand_at front.text.statements (body ++ Finish ∷ []) all.text.statements part.begins.statements)

  exprs_there : StandAt all.text.exprs (length front.text.exprs) (body_exprs p f fs front ++ initial_exprs (scope_in p f) f.locals)
  exprs_there = stand_at front.text.exprs (body_exprs p f fs front ++ initial_exprs (scope_in p f) f.locals) all.text.exprs part.begins.exprs

  initials_there : slice_range all.initials (length front.initials) (length front.initials + length f.locals) ≡ them
  initials_there =
      ap (λ (n : ℕ). slice_range all.initials (length front.initials) (length front.initials + n)) (sym (as_many_initials (scope_in p f) (length f.params) (length front.text.exprs + length (body_exprs p f fs front)) f.locals))
      ∙ at_range all.initials (length front.initials) them (stand_at front.initials them all.initials part.begins.initials)

  pub function_is : c.result_type ≡ f.result_type → Rises c.scope (scope_in p f) → AreNumbered table of names c.scope
      → ((l : LineTree) → Has (lines_of true false f.body) l → (ls : List LineTree) × (i : ℕ) × KeepsStatement c ls i l.switched l.code) → HaveInitials (scope_in p f) f.locals
      → called_cells all table (length fs) ≡ greatest of (callees f)
  function_is same rises are kept initials =
      let a = code_is all.text table of names c same rises are false (length front.text.statements) (end_of (own p f fs front)) (length front.text.exprs) (length front.text.arms) f.body kept (at_left all.text.exprs (length front.text.exprs) (body_exprs p f fs front) (initial_exprs (scope_in p f) f.locals) exprs_there) in
      let b = initials_are all.text table (scope_in p f) of are.in_expressions (length f.params) (length front.text.exprs + length (body_exprs p f fs front)) f.locals initials (at_right all.text.exprs (length front.text.exprs) (body_exprs p f fs front) (initial_exprs (scope_in p f) f.locals) exprs_there) in
      let d : body_cells all.text table (slice_range all.text.statements (length front.text.statements) (length (front.text.statements ++ (body ++ Finish ∷ [])))) ≡ body_cells all.text table (body ++ Finish ∷ []) = ap (body_cells all.text table) statements_there in
      let e : initials_cells all.text table (slice_range all.initials (length front.initials) (length front.initials + length f.locals)) ≡ initials_cells all.text table them = ap (initials_cells all.text table) initials_there in
      let g : func_cells all table (length (code_of p (f ∷ fs)).text.statements) (func_of p f front) ≡ greatest of (callees f) = omega (arith, a, b, d, e, body_append all.text table body (Finish ∷ []), greatest_append of (code_callees f.body) (local_callees f.locals)) in
      ap (λ (n : ℕ). option_map_or (func_cells all table n) (slice_get all.functions (length fs)) 0) part.end
      ∙ (ap (λ (o : Option Func). option_map_or (func_cells all table (length (code_of p (f ∷ fs)).text.statements)) o 0) part.func ∙ g)
