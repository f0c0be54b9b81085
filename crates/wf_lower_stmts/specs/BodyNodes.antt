-- What lowering knows of a method, by the nodes of its package and the table of its points.
use Rattle.std.specs.Prelude.{◌≡◌, ◌<◌, ◌^◌, ◌&&◌, ◌||◌, ◌++◌, ℕ, Bool, true, false, not, List, [], ◌∷◌, codes, Option, None, Some, length, map, nat_eq, nat_lt, unwrap_or}
use Rattle.std.specs.List.{list_all}
use Rattle.wf_ast.specs.declared.declarations.Method.{Method}
use Rattle.wf_ast.specs.declared.declarations.Struct.{Struct}
use Rattle.wf_ast.specs.declared.numbers.ExprId.{ExprId}
use Rattle.wf_ast.specs.declared.numbers.StmtId.{StmtId}
use Rattle.wf_ast.specs.declared.numbers.TextId.{TextId}
use Rattle.wf_ast.specs.declared.typed_code.Arm.{Arm}
use Rattle.wf_ast.specs.declared.typed_code.Block as typed_code
use Rattle.wf_ast.specs.declared.typed_code.Callee.{Callee}
use Rattle.wf_ast.specs.declared.typed_code.Callee.TheVariants as callees
use Rattle.wf_ast.specs.declared.typed_code.Stmt.{Stmt}
use Rattle.wf_ast.specs.declared.typed_code.Stmt.TheVariants as stmts
use Rattle.wf_base.specs.declared.base_methods.BaseSig.{BaseSig}
use Rattle.wf_base.specs.declared.base_methods.BaseSig.TheVariants as sigs
use Rattle.wf_base.specs.declared.base_methods.ReadForm.TheVariants.{ReadU8}
use Rattle.wf_ast.specs.declared.typed_nodes.TypedNodes.{TypedNodes}
use Rattle.wf_ast.specs.declared.types.Ty.{Ty}
use Rattle.wf_ast.specs.declared.variables.LocalId.{LocalId}
use Rattle.wf_ast.specs.TypedInvariant.{IsTyped, is_expr, has_few_variables}
use Rattle.wf_ast.specs.TypedPackage.{Variable, MethodTree, package_of, method_of}
use Rattle.wf_ast.specs.TypedTree.{ValueTree, Simple, break_from, continue_in, give_back, Site, Block, end, plain, choose, loop, Target, to_element, to_flag, to_slice, to_nothing}
use Rattle.wf_ast.specs.TypedTrees.{no_place, block_of, text_of, tree_of, onto, stmt_makers}
use Rattle.wf_ast.specs.WellTyped.{io_handed, is_that}
use Rattle.wf_ast.specs.NodeKinds.{is_number_at, is_slice_at, node_number, node_slice}
use Rattle.wf_points.specs.PointNumbers.{number_at, saved_locals}
use Rattle.c_text.specs.CSpelling.{is_word_byte}
use Rattle.c_text.specs.CTree.{Code, variable, assign}
use Rattle.wf_exprs.specs.Exprs.{Pair, io_code, place_code, end_code}
use Rattle.wf_exprs.specs.Names.{Names, named, local_pointer, local_length, saved_field, names_of, struct_called, struct_type}
use Rattle.wf_exprs.specs.Words.{of_self}
use Rattle.wf_exprs.specs.Scopes.{ScopeTree, are_named, path_of}
use Rattle.wf_lower_stmts.specs.Forms.{Form, form_of, stays, holds_something, counts_bytes, awaits, keeps, size_local, place_in, end_of, put, get}
use Rattle.wf_lower_stmts.specs.Lower.{is_return, returns}
use Rattle.wf_lower_stmts.specs.Statements.{is_passed, target_code, is_wanted, set_place, set_slice}
use Rattle.wf_lower_stmts.specs.declared.places.Picked.{Picked}
use Rattle.wf_lower_stmts.specs.declared.places.Picked.TheVariants as picked
use Rattle.wf_lower_stmts.specs.declared.places.Way.{Way}
use Rattle.wf_lower_stmts.specs.declared.places.Way.TheVariants as ways
use Rattle.wf_lower_stmts.specs.declared.targets.Target.{Target as TargetNode}
use Rattle.wf_lower_stmts.specs.declared.targets.Target.TheVariants as targets
use Rattle.wf_lower_stmts.specs.declared.walks.Sought.{Sought}
use Rattle.wf_lower_stmts.specs.declared.walks.Sought.TheVariants as sought
use Rattle.wf_lower_stmts.specs.declared.walks.StartedNumbers.{StartedNumbers}

pub record BodyTree : Type 0 where
  pub nodes : TypedNodes
  pub method : Method
  pub body : typed_code.Block
  pub numbers : List (Option ℕ)

-- The package and the method as trees, with the method's names.
abbrev pub form_in : BodyTree → Form
form_in b = form_of (package_of b.nodes) (method_of b.nodes b.method b.body)

-- The number that the table has for a statement; 0 where it has none.
abbrev pub point_at : List (Option ℕ) → (s : ℕ) → ℕ
point_at numbers s = unwrap_or (number_at numbers s) 0

abbrev pub points_by : List (Option ℕ) → Site → ℕ
points_by numbers site = point_at numbers site.number

-- Every name that a package declares is there, and made of letters, digits and `_`.
abbrev pub is_word_at : TypedNodes → TextId → Bool
is_word_at nodes t = nat_lt t.0 (length nodes.texts) && list_all is_word_byte (text_of nodes t)

abbrev pub is_spelt_struct : TypedNodes → Struct → Bool
is_spelt_struct nodes s = is_word_at nodes s.name && are_named nodes s.fields

abbrev pub is_spelt_method : TypedNodes → Method → Bool
is_spelt_method nodes m = nat_lt m.of.0 (length nodes.structs) && (is_word_at nodes m.name && (are_named nodes m.args && are_named nodes m.locals))

pub record HasWords (nodes : TypedNodes) : Type 0 where
  pub package_word : list_all is_word_byte nodes.package ≡ true
  pub struct_words : list_all (is_spelt_struct nodes) nodes.structs ≡ true
  pub method_words : list_all (is_spelt_method nodes) nodes.methods ≡ true

-- The numbers of points are numbers of `case` labels.
abbrev pub AreSmall : List (Option ℕ) → Type 0
AreSmall numbers = (s : ℕ) → point_at numbers s < 2 ^ 31

-- Which numbers the started statements of a block keep, and those of a method.
abbrev pub started_in : Block → StartedNumbers
started_in body = record { held = keeps holds_something body; counted = keeps counts_bytes body }

abbrev pub started_of : MethodTree → StartedNumbers
started_of m = started_in m.body

-- The names, the method, its body and what it keeps belong to one package.
pub record IsBody (scope : ScopeTree) (nodes : TypedNodes) (numbers : List (Option ℕ)) (m : Method) (body : typed_code.Block) (saved : List LocalId) (started : StartedNumbers) (returned : Bool) : Type 0 where
  pub typed : IsTyped nodes
  pub words : HasWords nodes
  pub same_nodes : scope.nodes ≡ nodes
  pub same_names : scope.names ≡ names_of (package_of nodes) (method_of nodes m body)
  pub saved_same : saved ≡ saved_locals (method_of nodes m body)
  pub started_same : started ≡ started_in (block_of nodes body)
  pub returned_same : returned ≡ returns (block_of nodes body)
  pub spelt : is_spelt_method nodes m ≡ true
  pub few : has_few_variables m ≡ true
  pub small : AreSmall numbers

-- A statement that passes a test stands in a block.
abbrev pub stands : (Simple → Bool) → Block → Bool
stands test end = false
stands test (plain site s rest) = test s || stands test rest
stands test (choose site chained c a b rest) = stands test a || (stands test b || stands test rest)
stands test (loop site head body rest) = stands test body || stands test rest

abbrev pub is_break_of : (w : ℕ) → Simple → Bool
is_break_of w (break_from v) = nat_eq v w
is_break_of w s = false

abbrev pub is_continue_of : (w : ℕ) → Simple → Bool
is_continue_of w (continue_in v) = nat_eq v w
is_continue_of w s = false

abbrev pub is_sought : Sought → Simple → Bool
is_sought (sought.Break w) s = is_break_of w.0 s
is_sought (sought.Continue w) s = is_continue_of w.0 s
is_sought sought.Held s = awaits holds_something s
is_sought sought.Counted s = awaits counts_bytes s
is_sought sought.Return s = is_return s

-- The same of a statement of a package, with the statements inside it.
unfoldable pub stands_at : TypedNodes → (Simple → Bool) → StmtId → Bool
stands_at nodes test s = stands test (onto (stmt_makers nodes) s end)

abbrev pub stands_among : (StmtId → Bool) → List StmtId → Bool
stands_among look [] = false
stands_among look (s ∷ ss) = look s || stands_among look ss

-- For which arguments something is done.
abbrev pub picks : TypedNodes → Picked → ℕ → Bool
picks nodes picked.All n = true
picks nodes (picked.Passed es) n = is_passed (map (tree_of nodes) es.now) n

abbrev pub are_there : TypedNodes → Picked → Bool
are_there nodes picked.All = true
are_there nodes (picked.Passed es) = list_all (is_expr nodes) es.now

-- Places go back to the buffers, or come from there with the ends: what one takes, and what those of arguments take.
abbrev pub one_place : Way → Names → (n : ℕ) → Ty → (rest : Code) → Code
one_place ways.Put names n ty rest = assign (place_in (io_code names n) ty) (place_code names n) rest
one_place ways.Get names n ty rest = assign (place_code names n) (place_in (io_code names n) ty) (assign (end_code names n) (end_of (io_code names n) ty) rest)

abbrev pub places_code : Way → Names → (picks : ℕ → Bool) → (n : ℕ) → List Variable → (rest : Code) → Code
places_code ways.Put names picks n xs rest = put names picks n xs rest
places_code ways.Get names picks n xs rest = get names picks n xs rest

-- The arms of an `if`, and its `else`.
abbrev pub stands_in_arms : (StmtId → Bool) → List Arm → Bool
stands_in_arms look [] = false
stands_in_arms look (arm ∷ arms) = stands_among look arm.body.items || stands_in_arms look arms

abbrev pub stands_in_else : (StmtId → Bool) → Option typed_code.Block → Bool
stands_in_else look None = false
stands_in_else look (Some block) = stands_among look block.items

-- An `if` without an arm stands for no statement.
abbrev pub stands_in_if : (StmtId → Bool) → List Arm → Option typed_code.Block → Bool
stands_in_if look [] other = false
stands_in_if look (arm ∷ arms) other = stands_in_arms look (arm ∷ arms) || stands_in_else look other

-- A base method with as many arguments as it takes, which has something to keep where it suspends, or has counted bytes.
abbrev pub write_holds : TypedNodes → (args : List ExprId) → Bool
write_holds nodes (e ∷ []) = not (stays (node_number nodes e))
write_holds nodes es = false

abbrev pub base_holds : TypedNodes → BaseSig → (args : List ExprId) → Bool
base_holds nodes (sigs.Read ReadU8) es = false
base_holds nodes (sigs.Read form) es = nat_eq (length es) 0
base_holds nodes sigs.Skip es = nat_eq (length es) 1
base_holds nodes sigs.Write es = write_holds nodes es
base_holds nodes sig es = false

abbrev pub base_counts : BaseSig → (args : ℕ) → Bool
base_counts (sigs.Read ReadU8) n = false
base_counts (sigs.Read form) n = nat_eq n 0
base_counts sig n = false

-- A call that is sought.
abbrev pub base_sought : TypedNodes → Sought → BaseSig → (args : List ExprId) → Bool
base_sought nodes sought.Held sig es = base_holds nodes sig es
base_sought nodes sought.Counted sig es = base_counts sig (length es)
base_sought nodes s sig es = false

abbrev pub call_sought : TypedNodes → Sought → Callee → (args : List ExprId) → Bool
call_sought nodes s (callees.Base on sig) es = base_sought nodes s sig es
call_sought nodes s callee es = false

-- A statement by its node, where `look` tells of the statements inside it.
abbrev pub stands_of : TypedNodes → (StmtId → Bool) → Sought → Stmt → Bool
stands_of nodes look s (stmts.If arms otherwise) = stands_in_if look arms otherwise
stands_of nodes look s (stmts.While head body) = stands_among look body.items
stands_of nodes look s (stmts.Break w) = is_sought s (break_from w.0)
stands_of nodes look s (stmts.Continue w) = is_sought s (continue_in w.0)
stands_of nodes look s (stmts.Return value) = is_sought s (give_back None)
stands_of nodes look s (stmts.Call target keep callee args) = call_sought nodes s callee args
stands_of nodes look s st = false

-- The names of a method's functions, by its declaration.
abbrev pub entry_name_of : TypedNodes → Method → List ℕ
entry_name_of nodes m = struct_type (package_of nodes) m.of.0 ++ (codes "__" ++ text_of nodes m.name)

abbrev pub body_name_of : TypedNodes → Method → List ℕ
body_name_of nodes m = codes "body_" ++ (struct_called (package_of nodes) m.of.0 ++ (codes "__" ++ text_of nodes m.name))

-- The tree is this reader or writer.
abbrev pub is_that_io : (n : ℕ) → ValueTree → Bool
is_that_io n t = is_that n (io_handed t)

-- A local goes to the field that keeps it, and comes from there.
abbrev pub save_one : (method name : List ℕ) → (rest : Code) → Code
save_one method name rest = assign (of_self (saved_field method name)) (variable (codes "v_" ++ name)) rest

abbrev pub restore_one : (method name : List ℕ) → (rest : Code) → Code
restore_one method name rest = assign (variable (codes "v_" ++ name)) (of_self (saved_field method name)) rest

-- What is done for the locals with these numbers, in order: `one` does it for a local by its name.
abbrev pub for_locals : (one : List ℕ → Code → Code) → (names : List (List ℕ)) → List LocalId → (rest : Code) → Code
for_locals one names [] rest = rest
for_locals one names (n ∷ ns) rest = one (named names n.0) (for_locals one names ns rest)

-- A target of the code as one of the tree. Its place and its type tell nothing of what is written.
abbrev pub target_in : TypedNodes → TargetNode → Target
target_in nodes (targets.Variable path) = to_flag no_place (path_of path)
target_in nodes (targets.Element base index) = to_element no_place (record { bits = 0; low = 0; high = 0 }) (node_slice nodes base) (node_number nodes index)
target_in nodes (targets.Slice path) = to_slice no_place 0 (path_of path)
target_in nodes targets.Nothing = to_nothing

-- What is written to two targets is written alike.
pub record AreAlike (t other : Target) : Type 0 where
  pub single : (names : Names) → target_code names t ≡ target_code names other
  pub wanted : is_wanted t ≡ is_wanted other
  pub double : (names : Names) (it : Pair) (rest : Code) → set_slice names t it rest ≡ set_slice names other it rest

abbrev pub is_target : TypedNodes → TargetNode → Bool
is_target nodes (targets.Element base index) = is_slice_at nodes base && is_number_at nodes index
is_target nodes t = true

-- A slice goes to a local.
abbrev pub set_local : Names → (n : ℕ) → Pair → (rest : Code) → Code
set_local names n it rest =
    assign size_local it.length.code (set_place (variable (local_pointer names n)) it.pointer (assign (variable (local_length names n)) size_local rest))
