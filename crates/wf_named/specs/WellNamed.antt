-- What the rules of names leave true of a resolved package: every number names something that may stand there, a call
-- has an argument for each that its method declares and hands on no reader or writer twice, no method reaches itself by calls, no
-- struct holds itself and no method has too many variables. Each is a test that computes.
use Rattle.std.specs.Prelude.{ℕ, zero, suc, ◌+◌, Bool, true, false, not, ◌&&◌, ◌||◌, List, [], ◌∷◌, length, Option, None, Some, option_map, option_and_then, if◌then◌else◌, nat_eq, nat_lt, nat_le, slice_get, is_some}
use Rattle.std.specs.List.{list_all, list_any}
use Rattle.wf_base.specs.declared.widths.Width.{Width}
use Rattle.wf_base.specs.declared.base_methods.Kind.{Kind}
use Rattle.wf_base.specs.declared.base_methods.Kind.TheVariants as kinds
use Rattle.wf_base.specs.BaseTable.{bits_of, row_of}
use Rattle.wf_named.specs.declared.nodes.BaseType.TheVariants as bases
use Rattle.wf_named.specs.declared.nodes.NamedCallee.{NamedCallee}
use Rattle.wf_named.specs.declared.nodes.NamedCallee.TheVariants as callees
use Rattle.wf_named.specs.declared.nodes.NamedPath.{NamedPath}
use Rattle.wf_named.specs.declared.nodes.Variable.{Variable}
use Rattle.wf_named.specs.declared.nodes.Variable.TheVariants as variables
use Rattle.wf_named.specs.NamedTree.{NamedExprTree, number, status, truth, path, index, slice, answer, chain, convert, negation, NamedPartTree, absent, present, NamedLinkTrees, no_link, link, NamedArgTrees, no_arg, more_args, NamedCallTree, call, NamedTypeTree, slice_of, array_of, base_type, struct_type, NamedBoundsTree, unrefined, refined, NamedTargetTree, to_path, to_element, NamedClauseTrees, no_clause, more_clauses, LetterTrees, no_letter, more_letters, NamedViaTree, by_itself, via, NamedStmtTree, assign, keep, do_call, branch, loop, leave, again, back, suspend, claim, NamedBlockTree, close, more_stmts, NamedArmTrees, no_else, otherwise, arm, VarTree, ConstTree, NamedStructTree, NamedMethodTree, NamedPackageTree}

-- What stands round an expression: its package, the number of constants that it knows, the struct of its receiver, and
-- the arguments and locals of its method.
pub record NamedScope : Type 0 where
  pub within : NamedPackageTree
  pub consts : ℕ
  pub of : Option ℕ
  pub args : List VarTree
  pub locals : List VarTree

abbrev pub fields_in : NamedPackageTree → Option ℕ → List VarTree
fields_in p None = []
fields_in p (Some s) = fields (slice_get p.structs s)
  where
    fields : Option NamedStructTree → List VarTree
    fields None = []
    fields (Some it) = it.fields

-- The declared type of what a path names, where it is there.
abbrev pub type_of_variable : NamedScope → Variable → Option NamedTypeTree
type_of_variable s (variables.Const c) = if nat_lt c.0 s.consts then option_map (λ x. x.of) (slice_get s.within.consts c.0) else None
type_of_variable s (variables.Local x) = option_map (λ x. x.of) (slice_get s.locals x.0)
type_of_variable s (variables.Field x) = option_map (λ x. x.of) (slice_get (fields_in s.within s.of) x.0)
type_of_variable s (variables.Arg x) = option_map (λ x. x.of) (slice_get s.args x.0)

abbrev pub is_there : NamedScope → NamedPath → Bool
is_there s p = is_some (type_of_variable s p.of)

-- The kind of value that a declared type has base methods for.
abbrev pub width_in : NamedTypeTree → Option Width
width_in (base_type (Some (bases.Number width)) at bounds) = Some width
width_in t = None

abbrev pub kind_of : NamedTypeTree → Option Kind
kind_of (base_type (Some bases.Reader) at bounds) = Some kinds.Reader
kind_of (base_type (Some bases.Writer) at bounds) = Some kinds.Writer
kind_of (base_type (Some bases.Status) at bounds) = Some kinds.Status
kind_of (slice_of at element) = option_map kinds.Slice (width_in element)
kind_of (array_of length at element) = option_map kinds.Array (width_in element)
kind_of t = None

abbrev pub same_kind : (a b : Kind) → Bool
same_kind kinds.Reader kinds.Reader = true
same_kind kinds.Writer kinds.Writer = true
same_kind kinds.Status kinds.Status = true
same_kind (kinds.Slice v) (kinds.Slice w) = nat_eq (bits_of v) (bits_of w)
same_kind (kinds.Array v) (kinds.Array w) = nat_eq (bits_of v) (bits_of w)
same_kind a b = false

abbrev pub has_kind : Kind → Option Kind → Bool
has_kind k None = false
has_kind k (Some own) = same_kind k own

-- How many arguments a callee declares, where it may be called here: an own method of the receiver's struct, a public
-- one of the struct in a field, a base method of the path's declared type.
abbrev pub args_of_own : Option ℕ → Option NamedMethodTree → Option ℕ
args_of_own (Some s) (Some m) = if nat_eq m.of s then Some (length m.args) else None
args_of_own s m = None

abbrev pub args_of_sub : Option NamedTypeTree → Option NamedMethodTree → Option ℕ
args_of_sub (Some (struct_type s at)) (Some m) = if m.public && nat_eq m.of s then Some (length m.args) else None
args_of_sub t m = None

abbrev pub args_wanted : NamedScope → NamedCallee → Option ℕ
args_wanted s (callees.Own m) = args_of_own s.of (slice_get s.within.methods m.0)
args_wanted s (callees.Sub x m) = args_of_sub (type_of_variable s (variables.Field x)) (slice_get s.within.methods m.0)
args_wanted s (callees.Base on sig) =
    if has_kind (row_of sig).on (option_and_then kind_of (type_of_variable s on.of)) then Some (length (row_of sig).args) else None

abbrev pub is_wanted : Option ℕ → ℕ → Bool
is_wanted None count = false
is_wanted (Some wanted) count = nat_eq wanted count

abbrev pub count_args : NamedArgTrees → ℕ
count_args no_arg = 0
count_args (more_args value others) = suc (count_args others)

-- The reader or writer that an expression hands on, by its number among the arguments of the calling method.
abbrev pub is_io : Option Kind → Bool
is_io (Some kinds.Reader) = true
is_io (Some kinds.Writer) = true
is_io kind = false

abbrev pub io_named : NamedScope → Variable → Option ℕ
io_named s (variables.Arg x) = if is_io (option_and_then kind_of (type_of_variable s (variables.Arg x))) then Some x.0 else None
io_named s x = None

abbrev pub io_handed : NamedScope → NamedExprTree → Option ℕ
io_handed s (path p) = io_named s p.of
io_handed s e = None

abbrev pub is_that : ℕ → Option ℕ → Bool
is_that a None = false
is_that a (Some b) = nat_eq a b

abbrev pub hands_on : NamedScope → (a : ℕ) → NamedArgTrees → Bool
hands_on s a no_arg = false
hands_on s a (more_args e others) = is_that a (io_handed s e) || hands_on s a others

-- It isn't handed on again by the arguments after it.
abbrev pub never_again : NamedScope → Option ℕ → NamedArgTrees → Bool
never_again s None others = true
never_again s (Some a) others = not (hands_on s a others)

abbrev mutual
  pub named_expr : NamedScope → NamedExprTree → Bool
  named_expr s (number value at) = true
  named_expr s (status n at) = nat_lt n (10 + length s.within.statuses)
  named_expr s (truth value at) = true
  named_expr s (path p) = is_there s p
  named_expr s (index p place at) = is_there s p && named_expr s place
  named_expr s (slice p from to at) = is_there s p && (named_part s from && named_part s to)
  named_expr s (answer c) = named_call s c
  named_expr s (chain op first links at) = named_expr s first && named_links s links
  named_expr s (convert e t at) = named_expr s e && named_type s t
  named_expr s (negation e at) = named_expr s e

  pub named_part : NamedScope → NamedPartTree → Bool
  named_part s absent = true
  named_part s (present e) = named_expr s e

  pub named_links : NamedScope → NamedLinkTrees → Bool
  named_links s no_link = true
  named_links s (link sign e others) = named_expr s e && named_links s others

  pub named_args : NamedScope → NamedArgTrees → Bool
  named_args s no_arg = true
  named_args s (more_args e others) = named_expr s e && (named_args s others && never_again s (io_handed s e) others)

  pub named_call : NamedScope → NamedCallTree → Bool
  named_call s (call callee at mark args) = is_wanted (args_wanted s callee) (count_args args) && named_args s args

  pub named_type : NamedScope → NamedTypeTree → Bool
  named_type s (slice_of at element) = named_type s element
  named_type s (array_of length at element) = named_expr s length && named_type s element
  named_type s (base_type of at bounds) = named_bounds s bounds
  named_type s (struct_type n at) = nat_lt n (length s.within.structs)

  pub named_bounds : NamedScope → NamedBoundsTree → Bool
  named_bounds s unrefined = true
  named_bounds s (refined low high) = named_part s low && named_expr s high

abbrev pub named_target : NamedScope → NamedTargetTree → Bool
named_target s (to_path p) = is_there s p
named_target s (to_element p place at) = is_there s p && named_expr s place

abbrev pub named_clauses : NamedScope → NamedClauseTrees → Bool
named_clauses s no_clause = true
named_clauses s (more_clauses kind condition at others) = named_expr s condition && named_clauses s others

abbrev pub named_letters : NamedScope → LetterTrees → Bool
named_letters s no_letter = true
named_letters s (more_letters letter value others) = named_expr s value && named_letters s others

abbrev pub named_via : NamedScope → NamedViaTree → Bool
named_via s by_itself = true
named_via s (via text given) = named_letters s given

-- `loops` is the number of loops round the statement.
abbrev mutual
  pub named_stmt : NamedScope → (loops : ℕ) → NamedStmtTree → Bool
  named_stmt s loops (assign target op sign value at) = named_target s target && named_expr s value
  named_stmt s loops (keep target c at) = named_target s target && named_call s c
  named_stmt s loops (do_call c at) = named_call s c
  named_stmt s loops (branch arms at) = named_arms s loops arms
  named_stmt s loops (loop condition clauses body at) = named_expr s condition && (named_clauses s clauses && named_block s (suc loops) body)
  named_stmt s loops (leave outwards at) = nat_lt outwards loops
  named_stmt s loops (again outwards at) = nat_lt outwards loops
  named_stmt s loops (back value at) = named_part s value
  named_stmt s loops (suspend value at) = named_expr s value
  named_stmt s loops (claim goal by at) = named_expr s goal && named_via s by

  pub named_block : NamedScope → (loops : ℕ) → NamedBlockTree → Bool
  named_block s loops (close at) = true
  named_block s loops (more_stmts first others) = named_stmt s loops first && named_block s loops others

  pub named_arms : NamedScope → (loops : ℕ) → NamedArmTrees → Bool
  named_arms s loops no_else = true
  named_arms s loops (otherwise body) = named_block s loops body
  named_arms s loops (arm condition body others) = named_expr s condition && (named_block s loops body && named_arms s loops others)

-- A constant knows only those before it; `n` is the number of the first one in the list.
abbrev pub scope_of_const : NamedPackageTree → ℕ → NamedScope
scope_of_const p n = record { within = p; consts = n; of = None; args = []; locals = [] }

abbrev pub named_consts : NamedPackageTree → (n : ℕ) → List ConstTree → Bool
named_consts p n [] = true
named_consts p n (c ∷ cs) = (named_type (scope_of_const p n) c.of && named_expr (scope_of_const p n) c.value) && named_consts p (suc n) cs

-- The types of fields are read in their struct, those of arguments and locals in their method.
abbrev pub scope_of_struct : NamedPackageTree → ℕ → NamedScope
scope_of_struct p n = record { within = p; consts = length p.consts; of = Some n; args = []; locals = [] }

abbrev pub named_structs : NamedPackageTree → (n : ℕ) → List NamedStructTree → Bool
named_structs p n [] = true
named_structs p n (it ∷ ss) = list_all (λ x. named_type (scope_of_struct p n) x.of) it.fields && named_structs p (suc n) ss

abbrev pub scope_of_method : NamedPackageTree → NamedMethodTree → NamedScope
scope_of_method p m = record { within = p; consts = length p.consts; of = Some m.of; args = m.args; locals = m.locals }

abbrev pub named_result : NamedScope → Option NamedTypeTree → Bool
named_result s None = true
named_result s (Some t) = named_type s t

abbrev pub named_method : NamedPackageTree → NamedMethodTree → Bool
named_method p m =
    nat_lt m.of (length p.structs) && (list_all (λ x. named_type (scope_of_method p m) x.of) m.args && (list_all (λ x. named_type (scope_of_method p m) x.of) m.locals
    && (named_result (scope_of_method p m) m.gives && named_block (scope_of_method p m) 0 m.body)))

-- The methods that are called anywhere in a body, by a test of their numbers.
abbrev pub known_callee : (ℕ → Bool) → NamedCallee → Bool
known_callee known (callees.Own m) = known m.0
known_callee known (callees.Sub x m) = known m.0
known_callee known (callees.Base on sig) = true

abbrev mutual
  pub expr_calls_only : (ℕ → Bool) → NamedExprTree → Bool
  expr_calls_only known (index p place at) = expr_calls_only known place
  expr_calls_only known (slice p from to at) = part_calls_only known from && part_calls_only known to
  expr_calls_only known (answer c) = call_calls_only known c
  expr_calls_only known (chain op first links at) = expr_calls_only known first && links_calls_only known links
  expr_calls_only known (convert e t at) = expr_calls_only known e
  expr_calls_only known (negation e at) = expr_calls_only known e
  expr_calls_only known e = true

  pub part_calls_only : (ℕ → Bool) → NamedPartTree → Bool
  part_calls_only known absent = true
  part_calls_only known (present e) = expr_calls_only known e

  pub links_calls_only : (ℕ → Bool) → NamedLinkTrees → Bool
  links_calls_only known no_link = true
  links_calls_only known (link sign e others) = expr_calls_only known e && links_calls_only known others

  pub args_calls_only : (ℕ → Bool) → NamedArgTrees → Bool
  args_calls_only known no_arg = true
  args_calls_only known (more_args e others) = expr_calls_only known e && args_calls_only known others

  pub call_calls_only : (ℕ → Bool) → NamedCallTree → Bool
  call_calls_only known (call callee at mark args) = known_callee known callee && args_calls_only known args

abbrev pub target_calls_only : (ℕ → Bool) → NamedTargetTree → Bool
target_calls_only known (to_path p) = true
target_calls_only known (to_element p place at) = expr_calls_only known place

abbrev pub clauses_call_only : (ℕ → Bool) → NamedClauseTrees → Bool
clauses_call_only known no_clause = true
clauses_call_only known (more_clauses kind condition at others) = expr_calls_only known condition && clauses_call_only known others

abbrev pub letters_call_only : (ℕ → Bool) → LetterTrees → Bool
letters_call_only known no_letter = true
letters_call_only known (more_letters letter value others) = expr_calls_only known value && letters_call_only known others

abbrev pub via_calls_only : (ℕ → Bool) → NamedViaTree → Bool
via_calls_only known by_itself = true
via_calls_only known (via text given) = letters_call_only known given

abbrev mutual
  pub stmt_calls_only : (ℕ → Bool) → NamedStmtTree → Bool
  stmt_calls_only known (assign target op sign value at) = target_calls_only known target && expr_calls_only known value
  stmt_calls_only known (keep target c at) = target_calls_only known target && call_calls_only known c
  stmt_calls_only known (do_call c at) = call_calls_only known c
  stmt_calls_only known (branch arms at) = arms_call_only known arms
  stmt_calls_only known (loop condition clauses body at) = expr_calls_only known condition && (clauses_call_only known clauses && block_calls_only known body)
  stmt_calls_only known (leave outwards at) = true
  stmt_calls_only known (again outwards at) = true
  stmt_calls_only known (back value at) = part_calls_only known value
  stmt_calls_only known (suspend value at) = expr_calls_only known value
  stmt_calls_only known (claim goal by at) = expr_calls_only known goal && via_calls_only known by

  pub block_calls_only : (ℕ → Bool) → NamedBlockTree → Bool
  block_calls_only known (close at) = true
  block_calls_only known (more_stmts first others) = stmt_calls_only known first && block_calls_only known others

  pub arms_call_only : (ℕ → Bool) → NamedArmTrees → Bool
  arms_call_only known no_else = true
  arms_call_only known (otherwise body) = block_calls_only known body
  arms_call_only known (arm condition body others) = expr_calls_only known condition && (block_calls_only known body && arms_call_only known others)

abbrev pub is_among : List ℕ → ℕ → Bool
is_among ms m = list_any (nat_eq m) ms

abbrev pub method_calls_only : (ℕ → Bool) → Option NamedMethodTree → Bool
method_calls_only known None = false
method_calls_only known (Some m) = block_calls_only known m.body

-- Each method of the list calls only those that stand before it.
abbrev pub calls_in_front : NamedPackageTree → (front rest : List ℕ) → Bool
calls_in_front p front [] = true
calls_in_front p front (m ∷ ms) = method_calls_only (is_among front) (slice_get p.methods m) && (not (is_among front m) && calls_in_front p (m ∷ front) ms)

-- No struct holds itself: with so many levels of fields every struct is whole. Only a field that is a struct, and no array
-- of them, holds it.
abbrev pub is_whole_type : (ℕ → Bool) → NamedTypeTree → Bool
is_whole_type whole (struct_type n at) = whole n
is_whole_type whole t = true

abbrev pub is_whole_struct : (ℕ → Bool) → Option NamedStructTree → Bool
is_whole_struct whole None = false
is_whole_struct whole (Some it) = list_all (λ x. is_whole_type whole x.of) it.fields

abbrev pub is_whole : NamedPackageTree → (levels n : ℕ) → Bool
is_whole p zero n = false
is_whole p (suc levels) n = is_whole_struct (is_whole p levels) (slice_get p.structs n)

abbrev pub all_whole : NamedPackageTree → (n : ℕ) → List NamedStructTree → Bool
all_whole p n [] = true
all_whole p n (it ∷ ss) = is_whole p (length p.structs) n && all_whole p (suc n) ss

-- Each struct of the list holds only those that stand before it.
abbrev pub structs_in_front : NamedPackageTree → (front rest : List ℕ) → Bool
structs_in_front p front [] = true
structs_in_front p front (s ∷ ss) = is_whole_struct (is_among front) (slice_get p.structs s) && (not (is_among front s) && structs_in_front p (s ∷ front) ss)

-- The order of the structs has them all, each after those that its fields hold.
abbrev pub has_struct_order : NamedPackageTree → Bool
has_struct_order p = nat_eq (length p.struct_order) (length p.structs) && structs_in_front p [] p.struct_order

-- At most 64 arguments and 256 locals.
abbrev pub has_few_variables : NamedMethodTree → Bool
has_few_variables m = nat_le (length m.args) 64 && nat_le (length m.locals) 256

-- A package that the rules of names leave.
unfoldable pub well_named : NamedPackageTree → Bool
well_named p =
    named_consts p 0 p.consts && (named_structs p 0 p.structs && (list_all (named_method p) p.methods
    && (all_whole p 0 p.structs && (nat_eq (length p.order) (length p.methods) && (calls_in_front p [] p.order && (has_struct_order p && list_all has_few_variables p.methods))))))
