-- The functions of a text, statement by statement.
use Rattle.std.proofs.Common.{◌≡◌, ℕ, List, [], ◌∷◌, Option, Some, None, refl, ◌∙◌}
use Rattle.wf_base.specs.declared.marks.Mark.{Mark}
use Rattle.wf_ast.specs.declared.types.Ty.{Ty}
use Rattle.wf_ast.specs.declared.types.Ty.TheVariants as types
use Rattle.wf_ast.specs.TypedPackage.{Variable, MethodTree, PackageTree, answers_of}
use Rattle.wf_ast.specs.WellTyped.{is_coroutine, is_pure}
use Rattle.wf_meaning.specs.SourceState.{fields_of}
use Rattle.c_text.specs.CTree.{ExprTree, Code, finish, assign}
use Rattle.c_meaning.specs.CStep.{Continuation, behind, Place, Label, find, first_of}
use Rattle.wf_exprs.specs.Reads.{code_reads}
use Rattle.wf_lower_stmts.specs.Forms.{Form, when_some}
use Rattle.wf_lower.specs.Bodies.{touched, resumed, answered, answer_in, refuse, when_any, when_disabled, when_wrong, when_other, wrong_args, disable_if_marked, table, settle_if_coroutine, entry_code}
use Rattle.wf_lower.specs.Unit.{initialize_part, initialize_parts, initialize_code}
use Rattle.wf_lower_laws.proofs.Straight.{Straight, over, assigned, calling, leaving, guarded, follows, ifs, restores, restores_started}

-- A label is looked for after such statements.
pub straight_finds : (l : Label) (rest code : Code) → Straight rest code → (k : Continuation) → find l code k ≡ find l rest k
straight_finds l rest _ over k = refl
straight_finds l rest _ (assigned target value code s) k = straight_finds l rest code s k
straight_finds l rest _ (calling target function given code s) k = straight_finds l rest code s k
straight_finds l rest _ (leaving value code s) k = straight_finds l rest code s k
straight_finds l rest _ (guarded test body code t s) k =
    past (find l body (behind finish code k)) (find l code k) (straight_finds l finish body t (behind finish code k)) ∙ straight_finds l rest code s k
  where
    past : (p q : Option Place) → p ≡ None → first_of p q ≡ q
    past None q e = refl
    past (Some p) q e = absurd (cc e)

-- What stands before a function's own statements.
pub touches : (names : List (List ℕ)) (code rest : Code) → Straight rest (touched names code rest)
touches [] code rest = over
touches (name ∷ names) code rest = ifs (code_reads name code) _ _ rest (touches names code rest) (guarded _ _ _ over (touches names code rest))

some_guard : (test : ExprTree) (body rest : Code) → Straight finish body → Straight rest (when_some test body rest)
some_guard test _ rest over = over
some_guard test _ rest (assigned target value code s) = guarded _ _ _ (assigned target value code s) over
some_guard test _ rest (calling target function given code s) = guarded _ _ _ (calling target function given code s) over
some_guard test _ rest (leaving value code s) = guarded _ _ _ (leaving value code s) over
some_guard test _ rest (guarded own body code t s) = guarded _ _ _ (guarded own body code t s) over

pub resumes : (f : Form) → Straight finish (resumed f)
resumes f = follows _ _ finish (restores f.method.name f.method.locals _) (restores_started f.method finish)

pub takes_number : (f : Form) (target value test : ExprTree) (rest : Code) → Straight rest (assign target value (when_some test (resumed f) rest))
takes_number f target value test rest = assigned _ _ _ (some_guard test (resumed f) rest (resumes f))

-- Entries.
refuses : (m : MethodTree) (n : ℕ) → Straight finish (refuse m n)
refuses m n = leaving _ _ over

any_guard : (es : List ExprTree) (body rest : Code) → Straight finish body → Straight rest (when_any es body rest)
any_guard [] body rest s = over
any_guard (e ∷ es) body rest s = guarded _ _ _ s over

disables : (mark : Mark) (rest : Code) → Straight rest (disable_if_marked mark rest)
disables mark rest = ifs (is_pure mark) _ _ rest over (assigned _ _ _ over)

disabled_row : (m : MethodTree) (rest : Code) → Straight rest (when_disabled m rest)
disabled_row m rest = ifs (is_pure m.mark) _ _ rest over (guarded _ _ _ (refuses m _) over)

wrong_row : (m : MethodTree) (rest : Code) → Straight rest (when_wrong m rest)
wrong_row m rest = any_guard (wrong_args m.args) _ rest (follows _ _ finish (disables m.mark _) (refuses m _))

other_row : (n : ℕ) (m : MethodTree) (rest : Code) → Straight rest (when_other n m rest)
other_row n m rest = ifs (is_coroutine m.mark) _ _ rest (guarded _ _ _ (assigned _ _ _ (refuses m _)) over) over

rows : (n : ℕ) (m : MethodTree) (rest : Code) → Straight rest (table n m rest)
rows n m rest =
    guarded _ _ _ (refuses m _) (guarded _ _ _ (refuses m _)
    (follows _ _ rest (disabled_row m _) (follows _ _ rest (wrong_row m _) (other_row n m rest))))

pub settles : (n : ℕ) (m : MethodTree) (rest : Code) → Straight rest (settle_if_coroutine n m rest)
settles n m rest =
    ifs (is_coroutine m.mark) _ _ rest (assigned _ _ _ (guarded _ _ _ (guarded _ _ _ (assigned _ _ _ over) (guarded _ _ _ (assigned _ _ _ over) over)) over)) over

answers : (e : Option ExprTree) → Straight finish (answered e)
answers None = over
answers (Some e) = leaving _ _ over

pub entry_straight : (p : PackageTree) (n : ℕ) (m : MethodTree) → Straight finish (entry_code p n m)
entry_straight p n m =
    follows _ _ finish (rows n m _) (calling _ _ _ _ (follows _ _ finish (settles n m _) (answers (answer_in (answers_of m.mark m.gives)))))

-- Inits.
part : (p : PackageTree) (x : Variable) (rest : Code) → Straight rest (initialize_part p x rest)
part p x rest = by x.ty
  where
    by : (ty : Ty) → Straight rest (initialize_part p (record { name = x.name; ty = ty }) rest)
    by (types.Num width lo hi) = over
    by types.Flag = over
    by types.Status = over
    by types.Reader = over
    by types.Writer = over
    by (types.Slice width) = over
    by (types.Array width lo hi count) = over
    by (types.Part s) = calling _ _ _ _ over

parts : (p : PackageTree) (xs : List Variable) (rest : Code) → Straight rest (initialize_parts p xs rest)
parts p [] rest = over
parts p (x ∷ xs) rest = follows _ _ rest (part p x _) (parts p xs rest)

pub initialize_straight : (p : PackageTree) (s : ℕ) → Straight finish (initialize_code p s)
initialize_straight p s = guarded _ _ _ (leaving _ _ over) (calling _ _ _ _ (assigned _ _ _ (follows _ _ finish (parts p (fields_of p s) _) (leaving _ _ over))))
