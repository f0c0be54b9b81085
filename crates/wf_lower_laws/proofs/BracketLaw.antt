-- No text opens a bracket where 512 are open.
use Rattle.std.proofs.Common.{◌≡◌, ◌⊎◌, inl, inr, ℕ, zero, suc, ◌+◌, ◌-◌, ◌^◌, ◌≤◌, Bool, true, false, List, [], ◌∷◌, ◌++◌, Option, Some, None, subst, arith}
use Rattle.std.specs.Prelude.{if◌then◌else◌, nat_le, nat_lt, slice_get, codes}
use Rattle.std.specs.List.{list_all, AllByRecursion}
use Rattle.wf_text.specs.Surface as surface
use Rattle.wf_text.specs.Surface.{AnswerKind}
use Rattle.wf_base.specs.declared.marks.Mark.{Mark}
use Rattle.wf_ast.specs.declared.types.Ty.{Ty}
use Rattle.wf_ast.specs.declared.types.Ty.TheVariants as types
use Rattle.wf_ast.specs.TypedPackage.{Variable, MethodTree, PackageTree, answers_of}
use Rattle.wf_ast.specs.WellTyped.{is_coroutine, is_pure}
use Rattle.wf_ast.proofs.Arena.{both_true}
use Rattle.wf_meaning.specs.Entry.{bad_receiver}
use Rattle.wf_meaning.specs.SourceState.{fields_of}
use Rattle.wf_meaning.specs.Remaining.{number_of}
use Rattle.c_text.specs.declared.kinds.CNumber.TheVariants.{Int}
use Rattle.c_text.specs.declared.kinds.COp.TheVariants.{Sub, Lt, Gt, Eq, Ne, Both, Either}
use Rattle.c_text.specs.declared.kinds.CUnary.TheVariants.{Not, Address}
use Rattle.c_text.specs.CTree.{ExprTree, variable, expr_arg, sizeof_arg, no_arg, Code, finish, empty, select, case_label, leave, LocalTree, ItemTree, ParamTree}
use Rattle.c_text.specs.CTree as c
use Rattle.wf_exprs.specs.Words.{num, two}
use Rattle.wf_exprs.specs.Reads.{code_reads}
use Rattle.wf_exprs.specs.Helpers.{saturating, saturating_value}
use Rattle.wf_exprs.specs.Exprs.{chained}
use Rattle.wf_lower_stmts.specs.Forms.{Form, form_of, resume_local, status_local, is_io, when_some}
use Rattle.wf_lower_stmts.specs.Lower.{ending, tail_of, top}
use Rattle.wf_lower.specs.Bodies.{params_of, io_locals, bytes_locals, local_of, locals_of, further_locals, resume_of, only_read, touched, resumed, statements_of, body_code, fixed_locals, own_names, body_locals, body_function, refuse, refused_with, wrong_number, wrong_arg, wrong_args, either_of, when_any, when_disabled, when_other, disable_if_marked, table, settle_if_coroutine, answer_locals, answer_in, answered, handed, entry_code, entry_function}
use Rattle.wf_lower.specs.Unit.{initialize_part, initialize_parts, initialize_code, initialize_function, lowered_unit}
use Rattle.wf_lower_laws.specs.BracketLaw.{block_within, TextsAreShallow}
use Rattle.wf_lower_laws.proofs.OpenBrackets.{LocalsOpen, ItemOpens, unit_shallow}
use Rattle.wf_lower_laws.proofs.ExprBrackets.{ExprBy, by_more, by_if, by_two, by_unary, by_choice, by_element, by_num, by_constant, by_chained, by_going, Operates, chained_operates}
use Rattle.wf_lower_laws.proofs.CodeBrackets.{CodeBy, code_more, code_finish, code_if, code_assign, code_when, code_leave, code_call, OptionBy, EachBy, each_both, easy, place_by, end_by, restores_all_by, block_by, ending_by, top_by}
use Rattle.wf_lower_laws.proofs.Items.{Each, in_unit}

-- ---- bodies

touched_by : (k : ℕ) (names : List (List ℕ)) (code rest : Code) → 1 ≤ k → CodeBy k rest → CodeBy k (touched names code rest)
touched_by k [] code rest l h = h
touched_by k (name ∷ names) code rest l h =
    let more = touched_by k names code rest l h in
    code_if k (code_reads name code) _ _ more (code_when 0 k (variable name) finish _ l (easy 0 (variable name) (λ m. tt {0})) (code_finish 0) more)

some_by : (d k : ℕ) (test : ExprTree) (body rest : Code) → d + 1 ≤ k → ExprBy d test → CodeBy d body → CodeBy k rest → CodeBy k (when_some test body rest)
some_by d k test finish rest l h j i = i
some_by d k test (c.nested inner other) rest l h j i = code_when d k test _ rest l h j i
some_by d k test (empty other) rest l h j i = code_when d k test _ rest l h j i
some_by d k test (c.assign target value other) rest l h j i = code_when d k test _ rest l h j i
some_by d k test (c.call target name given other) rest l h j i = code_when d k test _ rest l h j i
some_by d k test (c.jump label other) rest l h j i = code_when d k test _ rest l h j i
some_by d k test (c.branch own body otherwise more other) rest l h j i = code_when d k test _ rest l h j i
some_by d k test (c.repeat own body other) rest l h j i = code_when d k test _ rest l h j i
some_by d k test (select on body other) rest l h j i = code_when d k test _ rest l h j i
some_by d k test (leave value other) rest l h j i = code_when d k test _ rest l h j i
some_by d k test (case_label n other) rest l h j i = code_when d k test _ rest l h j i
some_by d k test (c.default_label other) rest l h j i = code_when d k test _ rest l h j i
some_by d k test (c.name_label name other) rest l h j i = code_when d k test _ rest l h j i

select_by : (d k : ℕ) (on : ExprTree) (own rest : Code) → d + 1 ≤ k → ExprBy d on → CodeBy d own → CodeBy k rest → CodeBy k (select on (case_label (Int 0) (empty own)) rest)
select_by d k on own rest l h j i = record { by = λ n m. (omega (arith, l, m), (h.by (n + 1) (omega (arith, l, m)), (j.by (n + 1) (omega (arith, l, m)), i.by n m))) }

body_by : (d k : ℕ) (f : Form) → d + 1 ≤ k → CodeBy d (statements_of f) → CodeBy k (body_code f)
body_by d k f l h =
    code_if k (is_coroutine f.method.mark) _ _
    (code_assign k _ _ _ (easy k _ (λ m. tt {0})) (by_num k 0)
    (some_by d k resume_local (resumed f) _ l (easy d resume_local (λ m. tt {0})) (restores_all_by d f.method finish (code_finish d))
    (select_by d k resume_local (statements_of f) (ending f) l (easy d resume_local (λ m. tt {0})) h (ending_by k f))))
    (code_more d k (statements_of f) (omega (arith, l)) h)

locals_both : (ls ms : List LocalTree) → LocalsOpen ls → LocalsOpen ms → LocalsOpen (ls ++ ms)
locals_both [] ms h j = j
locals_both (l ∷ ls) ms h j = (h.0, locals_both ls ms h.1 j)

locals_if : (b : Bool) (ls ms : List LocalTree) → LocalsOpen ls → LocalsOpen ms → LocalsOpen (if b then ls else ms)
locals_if true ls ms h j = h
locals_if false ls ms h j = j

io_open : (f : Form) (n : ℕ) (xs : List Variable) → LocalsOpen (io_locals f n xs)
io_open f n [] = tt
io_open f n (x ∷ xs) =
    locals_if (is_io x.ty) _ (io_locals f (suc n) xs) ((place_by 1 f.names n x.ty).by 1 (omega arith), ((end_by 1 f.names n x.ty (omega arith)).by 1 (omega arith), io_open f (suc n) xs)) (io_open f (suc n) xs)

bytes_open : (f : Form) (n : ℕ) (xs : List Variable) → LocalsOpen (bytes_locals f n xs)
bytes_open f n [] = tt
bytes_open f n (x ∷ xs) =
    locals_if (is_io x.ty) _ (bytes_locals f (suc n) xs) (tt, bytes_open f (suc n) xs) (bytes_open f (suc n) xs)

local_open : (name : List ℕ) (ty : Ty) → LocalsOpen (local_of (record { name = name; ty = ty }))
local_open name (types.Num width lo hi) = (tt, tt)
local_open name types.Flag = (tt, tt)
local_open name types.Status = (tt, tt)
local_open name types.Reader = tt
local_open name types.Writer = tt
local_open name (types.Slice width) = (tt, (tt, tt))
local_open name (types.Array width lo hi count) = tt
local_open name (types.Part s) = tt

all_open : (xs : List Variable) → LocalsOpen (locals_of xs)
all_open [] = tt
all_open (x ∷ xs) = locals_both (local_of x) (locals_of xs) (local_open x.name x.ty) (all_open xs)

read_open : (code : Code) (ls : List LocalTree) → LocalsOpen ls → LocalsOpen (only_read code ls)
read_open code [] h = tt
read_open code (l ∷ ls) h = locals_if (code_reads l.name code) (l ∷ only_read code ls) (only_read code ls) (h.0, read_open code ls h.1) (read_open code ls h.1)

body_locals_open : (f : Form) → LocalsOpen (body_locals f)
body_locals_open f =
    locals_both (fixed_locals f) _ (locals_both (io_locals f 0 f.method.args) (locals_of f.method.locals) (io_open f 0 f.method.args) (all_open f.method.locals))
    (locals_both (only_read (body_code f) (bytes_locals f 0 f.method.args)) _ (read_open (body_code f) (bytes_locals f 0 f.method.args) (bytes_open f 0 f.method.args))
    (locals_both (only_read (body_code f) further_locals) _ (read_open (body_code f) further_locals (tt, (tt, (tt, (tt, (tt, tt))))))
    (locals_if (is_coroutine f.method.mark) (resume_of f.method ∷ []) [] (tt, tt) tt)))

body_opens : (p : PackageTree) (m : MethodTree) → block_within 97 m.body ≡ true → ItemOpens (body_function (form_of p m))
body_opens p m h =
    let f = form_of p m in
    let own : CodeBy 497 (statements_of f) = block_by f (number_of m.body) 97 m.body (tail_of f top) h (top_by 497 f) in
    (body_locals_open f, (touched_by 498 (own_names f) (body_code f) (body_code f) (omega arith) (body_by 497 498 f (omega arith) own)).by 1 (omega arith))

-- ---- entries

refused_by : (k : ℕ) (kind : AnswerKind) (n : ℕ) → OptionBy k (refused_with kind n)
refused_by k surface.status n = by_constant (record { fields = []; args = []; locals = [] }) k n
refused_by k (surface.numeric bits) n = by_num k 0
refused_by k surface.truth n = by_num k 0
refused_by k surface.nothing n = tt

refuse_by : (k : ℕ) (m : MethodTree) (n : ℕ) → CodeBy k (refuse m n)
refuse_by k m n = code_leave k _ finish (refused_by k (answers_of m.mark m.gives) n) (code_finish k)

each_if : (k : ℕ) (b : Bool) (es fs : List ExprTree) → EachBy k es → EachBy k fs → EachBy k (if b then es else fs)
each_if k true es fs h j = h
each_if k false es fs h j = j

wrong_number_by : (name : List ℕ) (bits low high : ℕ) → EachBy 1 (wrong_number name bits low high)
wrong_number_by name bits low high =
    each_both 1 _ _ (each_if 1 (nat_lt 0 low) (two Lt (variable name) (num low) ∷ []) [] (by_two 0 1 Lt (variable name) (num low) (omega arith) (easy 0 (variable name) (λ m. tt {0})) (by_num 0 low), tt) tt)
    (each_if 1 (nat_lt high (2 ^ bits - 1)) (two Gt (variable name) (num high) ∷ []) [] (by_two 0 1 Gt (variable name) (num high) (omega arith) (easy 0 (variable name) (λ m. tt {0})) (by_num 0 high), tt) tt)

wrong_arg_by : (name : List ℕ) (ty : Ty) → EachBy 1 (wrong_arg name ty)
wrong_arg_by name (types.Num width lo hi) = wrong_number_by name _ lo hi
wrong_arg_by name types.Reader = (by_unary 0 1 Not (variable name) (omega arith) (easy 0 (variable name) (λ m. tt {0})), tt)
wrong_arg_by name types.Writer = (by_unary 0 1 Not (variable name) (omega arith) (easy 0 (variable name) (λ m. tt {0})), tt)
wrong_arg_by name types.Flag = tt
wrong_arg_by name types.Status = tt
wrong_arg_by name (types.Slice width) = tt
wrong_arg_by name (types.Array width lo hi count) = tt
wrong_arg_by name (types.Part s) = tt

wrong_args_by : (xs : List Variable) → EachBy 1 (wrong_args xs)
wrong_args_by [] = tt
wrong_args_by (x ∷ xs) = each_both 1 _ (wrong_args xs) (wrong_arg_by (codes "a_" ++ x.name) x.ty) (wrong_args_by xs)

either_by : (e : ExprTree) (es : List ExprTree) → ExprBy 1 e ⊎ (Operates Either e × ExprBy 2 e) → EachBy 1 es → ExprBy 2 (either_of e es)
either_by e [] (inl h) j = by_more 1 2 e (omega arith) h
either_by e [] (inr h) j = h.1
either_by e (x ∷ es) (inl h) j = either_by (chained true Either e x) es (inr (chained_operates true Either e x, by_chained 1 2 true Either e x (omega arith) h j.0)) j.1
either_by e (x ∷ es) (inr h) j = either_by (chained true Either e x) es (inr (chained_operates true Either e x, by_going 1 2 Either e x (omega arith) h.0 h.1 j.0)) j.1

any_by : (es : List ExprTree) (body rest : Code) → EachBy 1 es → CodeBy 2 body → CodeBy 5 rest → CodeBy 5 (when_any es body rest)
any_by [] body rest h j i = i
any_by (e ∷ es) body rest h j i = code_when 2 5 _ body rest (omega arith) (either_by e es (inl h.0) h.1) j i

disable_by : (k : ℕ) (rest : Code) (e : ExprTree) → ExprBy k e → CodeBy k rest → CodeBy k (c.assign e (num 2) rest)
disable_by k rest e h i = code_assign k e (num 2) rest h (by_num k 2) i

disables_by : (k : ℕ) (mark : Mark) (rest : Code) → CodeBy k rest → CodeBy k (disable_if_marked mark rest)
disables_by k mark rest i = code_if k (is_pure mark) _ _ i (disable_by k rest _ (easy k _ (λ m. tt {0})) i)

disabled_by : (m : MethodTree) (rest : Code) → CodeBy 5 rest → CodeBy 5 (when_disabled m rest)
disabled_by m rest i =
    code_if 5 (is_pure m.mark) _ _ i (code_when 1 5 _ _ rest (omega arith) (by_two 0 1 Eq (num 2) _ (omega arith) (by_num 0 2) (easy 0 _ (λ m. tt {0}))) (refuse_by 1 m _) i)

other_by : (n : ℕ) (m : MethodTree) (rest : Code) → CodeBy 5 rest → CodeBy 5 (when_other n m rest)
other_by n m rest i =
    code_if 5 (is_coroutine m.mark) _ _
    (code_when 2 5 _ _ rest (omega arith) (by_two 1 2 Both _ _ (omega arith) (easy 1 _ (λ m. tt {0})) (by_two 0 1 Ne _ (num (n + 1)) (omega arith) (easy 0 _ (λ m. tt {0})) (by_num 0 (n + 1))))
    (disable_by 2 _ _ (easy 2 _ (λ m. tt {0})) (refuse_by 2 m _)) i) i

table_by : (n : ℕ) (m : MethodTree) (rest : Code) → CodeBy 5 rest → CodeBy 5 (table n m rest)
table_by n m rest i =
    code_when 1 5 _ _ _ (omega arith) (by_unary 0 1 Not _ (omega arith) (easy 0 _ (λ m. tt {0}))) (refuse_by 1 m _)
    (code_when 1 5 _ _ _ (omega arith) (by_two 0 1 Eq (num 0) _ (omega arith) (by_num 0 0) (easy 0 _ (λ m. tt {0}))) (refuse_by 1 m _)
    (disabled_by m _ (any_by (wrong_args m.args) _ _ (wrong_args_by m.args) (disables_by 2 m.mark _ (refuse_by 2 m _)) (other_by n m rest i))))

first_by : (byte : ℕ) → ExprBy 2 (two Eq (num byte) (c.element status_local (num 0)))
first_by byte = by_two 1 2 Eq (num byte) _ (omega arith) (by_num 1 byte) (by_element 0 1 status_local (num 0) (omega arith) (easy 1 status_local (λ m. tt {0})) (by_num 0 0))

settle_by : (n : ℕ) (m : MethodTree) (rest : Code) → CodeBy 5 rest → CodeBy 5 (settle_if_coroutine n m rest)
settle_by n m rest i =
    code_if 5 (is_coroutine m.mark) _ _
    (code_assign 5 _ (num 0) _ (easy 5 _ (λ m. tt {0})) (by_num 5 0)
    (code_when 4 5 status_local _ rest (omega arith) (easy 4 status_local (λ m. tt {0}))
    (code_when 2 4 _ _ _ (omega arith) (first_by 36) (code_assign 2 _ (num (n + 1)) finish (easy 2 _ (λ m. tt {0})) (by_num 2 (n + 1)) (code_finish 2))
    (code_when 2 4 _ _ finish (omega arith) (first_by 35) (disable_by 2 finish _ (easy 2 _ (λ m. tt {0})) (code_finish 2)) (code_finish 4))) i)) i

handed_by : (k : ℕ) (ps : List ParamTree) → EachBy k (handed ps)
handed_by k [] = tt
handed_by k (p ∷ ps) = (easy k _ (λ m. tt {0}), handed_by k ps)

answer_in_by : (k : ℕ) (kind : AnswerKind) → OptionBy k (answer_in kind)
answer_in_by k surface.status = easy k _ (λ m. tt {0})
answer_in_by k (surface.numeric bits) = easy k _ (λ m. tt {0})
answer_in_by k surface.truth = easy k _ (λ m. tt {0})
answer_in_by k surface.nothing = tt

answered_by : (k : ℕ) (e : Option ExprTree) → OptionBy k e → CodeBy k (answered e)
answered_by k None h = code_finish k
answered_by k (Some e) h = code_leave k (Some e) finish h (code_finish k)

entry_by : (p : PackageTree) (n : ℕ) (m : MethodTree) → CodeBy 5 (entry_code p n m)
entry_by p n m =
    table_by n m _ (code_call 4 5 _ _ (handed (params_of p m)) _ (omega arith) (answer_in_by 5 (answers_of m.mark m.gives)) (handed_by 4 (params_of p m))
    (settle_by n m _ (answered_by 5 (answer_in (answers_of m.mark m.gives)) (answer_in_by 5 (answers_of m.mark m.gives)))))

answer_locals_open : (kind : AnswerKind) → LocalsOpen (answer_locals kind)
answer_locals_open surface.status = (tt, tt)
answer_locals_open (surface.numeric bits) = (tt, tt)
answer_locals_open surface.truth = (tt, tt)
answer_locals_open surface.nothing = tt

entry_opens : (p : PackageTree) (n : ℕ) (m : MethodTree) → ItemOpens (entry_function p n m)
entry_opens p n m = (answer_locals_open (answers_of m.mark m.gives), (entry_by p n m).by 1 (omega arith))

-- ---- inits and helpers

part_by : (p : PackageTree) (name : List ℕ) (ty : Ty) (rest : Code) → CodeBy 5 rest → CodeBy 5 (initialize_part p (record { name = name; ty = ty }) rest)
part_by p name (types.Num width lo hi) rest i = i
part_by p name types.Flag rest i = i
part_by p name types.Status rest i = i
part_by p name types.Reader rest i = i
part_by p name types.Writer rest i = i
part_by p name (types.Slice width) rest i = i
part_by p name (types.Array width lo hi count) rest i = i
part_by p name (types.Part s) rest i = code_call 4 5 None _ (_ ∷ []) rest (omega arith) tt (by_unary 0 4 Address _ (omega arith) (easy 0 _ (λ m. tt {0})), tt) i

parts_by : (p : PackageTree) (xs : List Variable) (rest : Code) → CodeBy 5 rest → CodeBy 5 (initialize_parts p xs rest)
parts_by p [] rest i = i
parts_by p (x ∷ xs) rest i = part_by p x.name x.ty _ (parts_by p xs rest i)

cleared_by : (name given size : List ℕ) (n : ℕ) (rest : Code) → CodeBy 5 rest → CodeBy 5 (c.call None name (expr_arg (variable given) (expr_arg (num n) (sizeof_arg size no_arg))) rest)
cleared_by name given size n rest i = record { by = λ k m. (tt, (omega (arith, m), ((tt, (tt, (omega (arith, m), tt))), i.by k m))) }

init_by : (p : PackageTree) (s : ℕ) → CodeBy 5 (initialize_code p s)
init_by p s =
    code_when 1 5 _ _ _ (omega arith) (by_unary 0 1 Not _ (omega arith) (easy 0 _ (λ m. tt {0}))) (code_leave 1 _ finish (by_constant (record { fields = []; args = []; locals = [] }) 1 bad_receiver) (code_finish 1))
    (cleared_by _ _ _ 0 _ (code_assign 5 _ (num 1) _ (easy 5 _ (λ m. tt {0})) (by_num 5 1) (parts_by p (fields_of p s) _ (code_leave 5 (Some (num 0)) finish (by_num 5 0) (code_finish 5)))))

init_opens : (p : PackageTree) (s : ℕ) → ItemOpens (initialize_function p s)
init_opens p s = (tt, (init_by p s).by 1 (omega arith))

helper_opens : (sum : Bool) (bits : ℕ) → ItemOpens (saturating sum bits)
helper_opens true bits = (tt, ((value true bits).by 1 (omega arith), tt))
  where
    value : (sum : Bool) (bits : ℕ) → ExprBy 3 (saturating_value sum bits)
    value true bits = by_choice 2 3 _ _ _ (omega arith)
        (by_if 2 (nat_le bits 16) _ _ (by_two 1 2 Gt _ (num (2 ^ bits - 1)) (omega arith) (by_two 0 1 _ _ _ (omega arith) (easy 0 _ (λ m. tt {0})) (easy 0 _ (λ m. tt {0}))) (by_num 1 (2 ^ bits - 1)))
        (by_two 1 2 Lt _ _ (omega arith) (by_two 0 1 _ _ _ (omega arith) (easy 0 _ (λ m. tt {0})) (easy 0 _ (λ m. tt {0}))) (easy 1 _ (λ m. tt {0}))))
        (by_num 2 (2 ^ bits - 1)) (by_two 0 2 _ _ _ (omega arith) (easy 0 _ (λ m. tt {0})) (easy 0 _ (λ m. tt {0})))
    value false bits = by_choice 2 3 _ _ _ (omega arith) (by_two 0 2 Lt _ _ (omega arith) (easy 0 _ (λ m. tt {0})) (easy 0 _ (λ m. tt {0}))) (by_num 2 0)
        (by_two 0 2 Sub _ _ (omega arith) (easy 0 _ (λ m. tt {0})) (easy 0 _ (λ m. tt {0})))
helper_opens false bits = (tt, ((value bits).by 1 (omega arith), tt))
  where
    value : (bits : ℕ) → ExprBy 3 (saturating_value false bits)
    value bits = by_choice 2 3 _ _ _ (omega arith) (by_two 0 2 Lt _ _ (omega arith) (easy 0 _ (λ m. tt {0})) (easy 0 _ (λ m. tt {0}))) (by_num 2 0)
        (by_two 0 2 Sub _ _ (omega arith) (easy 0 _ (λ m. tt {0})) (easy 0 _ (λ m. tt {0})))

-- ---- the text

within_at : (ms : List MethodTree) (i : ℕ) (m : MethodTree) → list_all (λ m. block_within 97 m.body) ms ≡ true → slice_get ms i ≡ Some m → block_within 97 m.body ≡ true
within_at [] i m h e = absurd (cc e)
within_at (x ∷ ms) zero m h e =
    let same : x ≡ m = cc e in
    let P : MethodTree → Type 0 = λ m. block_within 97 m.body ≡ true in
    subst P same (both_true (block_within 97 x.body) (list_all (λ m. block_within 97 m.body) ms) h).0
within_at (x ∷ ms) (suc i) m h e = within_at ms i m (both_true (block_within 97 x.body) (list_all (λ m. block_within 97 m.body) ms) h).1 e

all_items : (items : List ItemTree) → Each ItemOpens items → AllByRecursion ItemOpens items
all_items [] h = tt
all_items (x ∷ xs) h = (h.0, all_items xs h.1)

pub texts_are_shallow : TextsAreShallow
texts_are_shallow p h =
    unit_shallow (lowered_unit p) (all_items (lowered_unit p) (in_unit ItemOpens p (record {
      buffer = tt;
      structs = λ s. tt;
      texts = λ n bytes. tt;
      helpers = helper_opens;
      inits = init_opens p;
      bodies = λ n m e. body_opens p m (within_at p.methods n m h e);
      entries = λ n m e. entry_opens p n m;
    })))
