-- The resolved tree of a parsed one, by what names stand for. What stands for nothing, which the rules of names don't
-- leave, falls to the number 0.
use Rattle.std.specs.Prelude.{◌+◌, ℕ, Bool, false, if◌then◌else◌, List, [], ◌∷◌, ◌++◌, map, Option, Some, None, bytes_eq, codes}
use Rattle.std.specs.List.{find, position_from}
use Rattle.wf_base.specs.declared.marks.Mark.{Mark}
use Rattle.wf_base.specs.declared.marks.Mark.TheVariants as marks
use Rattle.wf_base.specs.declared.widths.Width.{Width}
use Rattle.wf_base.specs.BaseTable.{row_of}
use Rattle.wf_ast.specs.declared.parsed.Name.{Name}
use Rattle.wf_ast.specs.declared.parsed.Path.{Path}
use Rattle.wf_ast.specs.declared.parsed.Receiver.{Receiver}
use Rattle.wf_ast.specs.declared.parsed.Receiver.TheVariants as receivers
use Rattle.wf_ast.specs.declared.parsed.Root.{Root}
use Rattle.wf_ast.specs.declared.parsed.Root.TheVariants as roots
use Rattle.wf_ast.specs.declared.parsed.WrittenMark.{WrittenMark}
use Rattle.wf_ast.specs.declared.parsed.WrittenMark.TheVariants as written
use Rattle.wf_ast.specs.ParsedTree as parsed
use Rattle.wf_ast.specs.ParsedTree.{ExprTree, PartTree, LinkTrees, GivenTrees, CallTree, TypeTree, BoundsTree, TargetTree, ClauseTrees, ViaTree, StmtTree, BlockTree, ArmTrees}
use Rattle.wf_named.specs.declared.nodes.BaseType.{BaseType}
use Rattle.wf_named.specs.declared.nodes.BaseType.TheVariants as bases
use Rattle.wf_named.specs.declared.nodes.NamedCallee.{NamedCallee}
use Rattle.wf_named.specs.declared.nodes.NamedCallee.TheVariants as named_callees
use Rattle.wf_named.specs.declared.nodes.NamedPath.{NamedPath}
use Rattle.wf_named.specs.declared.nodes.Variable.{Variable}
use Rattle.wf_named.specs.declared.nodes.Variable.TheVariants as variables
use Rattle.wf_named.specs.NamedTree as tree
use Rattle.wf_named.specs.NamedTree.{NamedExprTree, NamedPartTree, NamedLinkTrees, NamedArgTrees, NamedCallTree, NamedTypeTree, NamedBoundsTree, NamedTargetTree, NamedClauseTrees, Word, LetterTrees, NamedViaTree, NamedStmtTree, NamedBlockTree, NamedArmTrees}
use Rattle.wf_names_rules.specs.declared.callees.Callee.{Callee}
use Rattle.wf_names_rules.specs.declared.callees.Callee.TheVariants as callees
use Rattle.wf_names_rules.specs.Declarations.{is_spelt}
use Rattle.wf_names_rules.specs.Meanings.{base_status_texts, width_named}
use Rattle.wf_names_resolve.specs.Standing.{Standing}

abbrev pub number_or : Option ℕ → ℕ
number_or None = 0
number_or (Some n) = n

-- The statuses of the language have the numbers 1 to 9, in their order.
abbrev pub base_status_number : List ℕ → ℕ
base_status_number text = number_or (position_from (bytes_eq text) 1 base_status_texts)

-- A name that keeps its text.
abbrev pub word_of : (bytes : ℕ → List ℕ) → Name → Word
word_of bytes name = record { text = bytes name.text.0; at = name.at }

abbrev pub resolved_word : Standing → Name → Word
resolved_word k name = word_of k.bytes name

-- A bare name is a local, else a constant.
abbrev pub bare_variable : (local constant : Option ℕ) → Variable
bare_variable (Some n) constant = variables.Local (record { 0 = n })
bare_variable None constant = variables.Const (record { 0 = number_or constant })

abbrev pub variable_at : Standing → Root → (text : ℕ) → Variable
variable_at k roots.Bare text = bare_variable (k.local text) (k.constant text)
variable_at k roots.This text = variables.Field (record { 0 = number_or (k.field text) })
variable_at k roots.Args text = variables.Arg (record { 0 = number_or (k.arg text) })

abbrev pub resolved_path : Standing → Path → NamedPath
resolved_path k path = record { of = variable_at k path.root path.name.text.0; at = path.at }

-- What is called: a method of the package on `this`, or through a field; a base method on a path.
abbrev pub callee_at : Standing → Receiver → Callee → NamedCallee
callee_at k (receivers.This at) (callees.Own m) = named_callees.Own (record { 0 = m })
callee_at k (receivers.Path path) (callees.Own m) = named_callees.Sub (record { 0 = number_or (k.field path.name.text.0) }) (record { 0 = m })
callee_at k (receivers.Path path) (callees.Base sig) = named_callees.Base (resolved_path k path) sig
callee_at k _ _ = named_callees.Own (record { 0 = 0 })

abbrev pub resolved_mark : WrittenMark → Mark
resolved_mark written.Unmarked = marks.Pure
resolved_mark written.Exclamation = marks.Impure
resolved_mark written.Question = marks.Coroutine

-- A type of the language by its name after `base.`, which may be none.
abbrev pub sized_type : Option Width → Option BaseType → Option BaseType
sized_type (Some width) other = Some (bases.Number width)
sized_type None other = other

abbrev pub plain_type_named : List ℕ → Option BaseType
plain_type_named name =
    if bytes_eq name (codes "bool") then Some bases.Flag
    else if bytes_eq name (codes "io_reader") then Some bases.Reader
    else if bytes_eq name (codes "io_writer") then Some bases.Writer
    else None

abbrev pub base_type_named : List ℕ → Option BaseType
base_type_named name = sized_type (width_named name) (plain_type_named name)

-- A value under its name.
pub record NamedGiven : Type 0 where
  pub name : Name
  pub value : NamedExprTree

-- The arguments of a call, in the order in which its method declares them: for each the first value that is given under
-- its name.
abbrev pub with_arg : Option NamedGiven → NamedArgTrees → NamedArgTrees
with_arg None others = others
with_arg (Some given) others = tree.more_args given.value others

abbrev pub args_named : List NamedGiven → (wanted : List ℕ) → NamedArgTrees
args_named given [] = tree.no_arg
args_named given (text ∷ texts) = with_arg (find (λ g. is_spelt text g.name) given) (args_named given texts)

-- Those of a base method have their names by bytes.
abbrev pub args_spelt : (bytes : ℕ → List ℕ) → List NamedGiven → (wanted : List (List ℕ)) → NamedArgTrees
args_spelt bytes given [] = tree.no_arg
args_spelt bytes given (name ∷ names) = with_arg (find (λ g. bytes_eq name (bytes g.name.text.0)) given) (args_spelt bytes given names)

abbrev pub args_for : Standing → Callee → List NamedGiven → NamedArgTrees
args_for k (callees.Own m) given = args_named given (k.args m)
args_for k (callees.Base sig) given = args_spelt k.bytes given (map (λ arg. arg.0) (row_of sig).args)
args_for k _ given = tree.no_arg

-- Expressions.
abbrev mutual
  pub resolved_expr : Standing → ExprTree → NamedExprTree
  resolved_expr k (parsed.number value at) = tree.number value at
  resolved_expr k (parsed.own_status text) = tree.status (number_or (k.status text.text.0)) text.at
  resolved_expr k (parsed.base_status text at) = tree.status (base_status_number (k.bytes text.text.0)) at
  resolved_expr k (parsed.fine at) = tree.status 0 at
  resolved_expr k (parsed.truth value at) = tree.truth value at
  resolved_expr k (parsed.path path) = tree.path (resolved_path k path)
  resolved_expr k (parsed.index base place at) = tree.index (resolved_path k base) (resolved_expr k place) at
  resolved_expr k (parsed.slice base from to at) = tree.slice (resolved_path k base) (resolved_part k from) (resolved_part k to) at
  resolved_expr k (parsed.answer c) = tree.answer (resolved_call k c)
  resolved_expr k (parsed.chain op first links at) = tree.chain op (resolved_expr k first) (resolved_links k links) at
  resolved_expr k (parsed.convert of to at) = tree.convert (resolved_expr k of) (resolved_type k to) at
  resolved_expr k (parsed.negation of at) = tree.negation (resolved_expr k of) at

  pub resolved_part : Standing → PartTree → NamedPartTree
  resolved_part k parsed.absent = tree.absent
  resolved_part k (parsed.present part) = tree.present (resolved_expr k part)

  pub resolved_links : Standing → LinkTrees → NamedLinkTrees
  resolved_links k parsed.no_link = tree.no_link
  resolved_links k (parsed.link sign operand others) = tree.link sign (resolved_expr k operand) (resolved_links k others)

  pub resolved_given : Standing → GivenTrees → List NamedGiven
  resolved_given k parsed.no_given = []
  resolved_given k (parsed.more_given name value others) = record { name = name; value = resolved_expr k value } ∷ resolved_given k others

  pub resolved_call : Standing → CallTree → NamedCallTree
  resolved_call k (parsed.call on name mark given) =
      tree.call (callee_at k on (k.callee on name.text.0)) name.at (resolved_mark mark) (args_for k (k.callee on name.text.0) (resolved_given k given))

  -- a status type has a name of its own, and a struct its number
  pub resolved_type : Standing → TypeTree → NamedTypeTree
  resolved_type k (parsed.slice_of at element) = tree.slice_of at (resolved_type k element)
  resolved_type k (parsed.array_of length at element) = tree.array_of (resolved_expr k length) at (resolved_type k element)
  resolved_type k (parsed.base_type name at bounds) = tree.base_type (base_type_named (k.bytes name.text.0)) at (resolved_bounds k bounds)
  resolved_type k (parsed.status_type at bounds) = tree.base_type (Some bases.Status) at (resolved_bounds k bounds)
  resolved_type k (parsed.struct_type name) = tree.struct_type (number_or (k.structure name.text.0)) name.at

  pub resolved_bounds : Standing → BoundsTree → NamedBoundsTree
  resolved_bounds k parsed.unrefined = tree.unrefined
  resolved_bounds k (parsed.refined low high) = tree.refined (resolved_part k low) (resolved_expr k high)

-- Parts of statements.
abbrev pub resolved_target : Standing → TargetTree → NamedTargetTree
resolved_target k (parsed.to_path path) = tree.to_path (resolved_path k path)
resolved_target k (parsed.to_element base place at) = tree.to_element (resolved_path k base) (resolved_expr k place) at

abbrev pub resolved_clauses : Standing → ClauseTrees → NamedClauseTrees
resolved_clauses k parsed.no_clause = tree.no_clause
resolved_clauses k (parsed.more_clauses kind condition at others) = tree.more_clauses kind (resolved_expr k condition) at (resolved_clauses k others)

abbrev pub letters_of : Standing → List NamedGiven → LetterTrees
letters_of k [] = tree.no_letter
letters_of k (g ∷ gs) = tree.more_letters (resolved_word k g.name) g.value (letters_of k gs)

abbrev pub resolved_via : Standing → ViaTree → NamedViaTree
resolved_via k parsed.by_itself = tree.by_itself
resolved_via k (parsed.via axiom_name given) = tree.via (resolved_word k axiom_name) (letters_of k (resolved_given k given))

-- The loop that a jump means, by how many stand between it and the jump: without a label the innermost, else the nearest
-- that has the label. `loops` are the labels of the loops round the jump, the outermost first.
abbrev pub is_label : (text : ℕ) → Option Name → Bool
is_label text None = false
is_label text (Some label) = is_spelt text label

abbrev pub loops_behind : (text count : ℕ) → (loops : List (Option Name)) → ℕ
loops_behind text count [] = count
loops_behind text count (loop ∷ loops) = loops_behind text (if is_label text loop then 0 else count + 1) loops

abbrev pub outwards : (loops : List (Option Name)) → Option Name → ℕ
outwards loops None = 0
outwards loops (Some label) = loops_behind label.text.0 0 loops

-- A local's declaration is no statement of a resolved block.
abbrev pub with_stmt : Option NamedStmtTree → NamedBlockTree → NamedBlockTree
with_stmt None others = others
with_stmt (Some s) others = tree.more_stmts s others

abbrev mutual
  pub resolved_stmt : Standing → (loops : List (Option Name)) → StmtTree → Option NamedStmtTree
  resolved_stmt k loops (parsed.var name of at) = None
  resolved_stmt k loops (parsed.assign target op sign value at) = Some (tree.assign (resolved_target k target) op sign (resolved_expr k value) at)
  resolved_stmt k loops (parsed.keep target c at) = Some (tree.keep (resolved_target k target) (resolved_call k c) at)
  resolved_stmt k loops (parsed.do_call c at) = Some (tree.do_call (resolved_call k c) at)
  resolved_stmt k loops (parsed.branch arms at) = Some (tree.branch (resolved_arms k loops arms) at)
  resolved_stmt k loops (parsed.loop label condition clauses body at) =
      Some (tree.loop (resolved_expr k condition) (resolved_clauses k clauses) (resolved_block k (loops ++ label ∷ []) body) at)
  resolved_stmt k loops (parsed.leave label at) = Some (tree.leave (outwards loops label) at)
  resolved_stmt k loops (parsed.again label at) = Some (tree.again (outwards loops label) at)
  resolved_stmt k loops (parsed.back value at) = Some (tree.back (resolved_part k value) at)
  resolved_stmt k loops (parsed.suspend value at) = Some (tree.suspend (resolved_expr k value) at)
  resolved_stmt k loops (parsed.claim goal by at) = Some (tree.claim (resolved_expr k goal) (resolved_via k by) at)

  pub resolved_block : Standing → (loops : List (Option Name)) → BlockTree → NamedBlockTree
  resolved_block k loops (parsed.close at) = tree.close at
  resolved_block k loops (parsed.more_stmts first others) = with_stmt (resolved_stmt k loops first) (resolved_block k loops others)

  pub resolved_arms : Standing → (loops : List (Option Name)) → ArmTrees → NamedArmTrees
  resolved_arms k loops parsed.no_else = tree.no_else
  resolved_arms k loops (parsed.otherwise body) = tree.otherwise (resolved_block k loops body)
  resolved_arms k loops (parsed.arm condition body others) = tree.arm (resolved_expr k condition) (resolved_block k loops body) (resolved_arms k loops others)
