-- The resolved tree: what the files of a package say, as mathematical trees in which every name stands for what it names.
use Rattle.std.specs.Prelude.{ℕ, Bool, Option, List}
use Rattle.wf_text.specs.declared.place.Place.{Place}
use Rattle.wf_base.specs.declared.marks.Mark.{Mark}
use Rattle.wf_ast.specs.declared.operators.Op.{Op}
use Rattle.wf_ast.specs.declared.parsed.Clause.{Clause}
use Rattle.wf_named.specs.declared.nodes.BaseType.{BaseType}
use Rattle.wf_named.specs.declared.nodes.NamedCallee.{NamedCallee}
use Rattle.wf_named.specs.declared.nodes.NamedPath.{NamedPath}

-- Expressions, and the types that stand in them. `at` is the place of a literal, of a status, of a first operator sign, or
-- of a `[`; a path has its own, and a call has that of its method's name.
mutual
  pub data NamedExprTree : Type 0 where
    number : (value : ℕ) → (at : Place) → NamedExprTree
    -- ok is 0, the statuses of the language are 1 to 9, and those of the package follow
    status : (number : ℕ) → (at : Place) → NamedExprTree
    truth : (value : Bool) → (at : Place) → NamedExprTree
    path : (path : NamedPath) → NamedExprTree
    index : (base : NamedPath) → (place : NamedExprTree) → (at : Place) → NamedExprTree
    slice : (base : NamedPath) → (from : NamedPartTree) → (to : NamedPartTree) → (at : Place) → NamedExprTree
    answer : (call : NamedCallTree) → NamedExprTree
    -- one operator between operands in order
    chain : (op : Op) → (first : NamedExprTree) → (links : NamedLinkTrees) → (at : Place) → NamedExprTree
    convert : (of : NamedExprTree) → (to : NamedTypeTree) → (at : Place) → NamedExprTree
    negation : (of : NamedExprTree) → (at : Place) → NamedExprTree

  -- an expression that may be absent
  pub data NamedPartTree : Type 0 where
    absent : NamedPartTree
    present : (part : NamedExprTree) → NamedPartTree

  -- the operands of a chain after its first, in order, each with the place of the sign before it
  pub data NamedLinkTrees : Type 0 where
    no_link : NamedLinkTrees
    link : (sign : Place) → (operand : NamedExprTree) → (others : NamedLinkTrees) → NamedLinkTrees

  -- the arguments of a call, in the order in which its method declares them
  pub data NamedArgTrees : Type 0 where
    no_arg : NamedArgTrees
    more_args : (value : NamedExprTree) → (others : NamedArgTrees) → NamedArgTrees

  pub data NamedCallTree : Type 0 where
    call : (callee : NamedCallee) → (at : Place) → (mark : Mark) → (args : NamedArgTrees) → NamedCallTree

  -- types; `at` is the place of the type's first token, and `of` is absent where the language has no such type
  pub data NamedTypeTree : Type 0 where
    slice_of : (at : Place) → (element : NamedTypeTree) → NamedTypeTree
    array_of : (length : NamedExprTree) → (at : Place) → (element : NamedTypeTree) → NamedTypeTree
    base_type : (of : Option BaseType) → (at : Place) → (bounds : NamedBoundsTree) → NamedTypeTree
    struct_type : (number : ℕ) → (at : Place) → NamedTypeTree

  pub data NamedBoundsTree : Type 0 where
    unrefined : NamedBoundsTree
    refined : (low : NamedPartTree) → (high : NamedExprTree) → NamedBoundsTree

-- What is written to; `at` is the place of the `[`.
pub data NamedTargetTree : Type 0 where
  to_path : (path : NamedPath) → NamedTargetTree
  to_element : (base : NamedPath) → (place : NamedExprTree) → (at : Place) → NamedTargetTree

-- The promises of a loop, in order, each with the place of its word.
pub data NamedClauseTrees : Type 0 where
  no_clause : NamedClauseTrees
  more_clauses : (kind : Clause) → (condition : NamedExprTree) → (at : Place) → (others : NamedClauseTrees) → NamedClauseTrees

-- A name or a quoted text, with its place.
pub record Word : Type 0 where
  pub text : List ℕ
  pub at : Place

-- What is given for the letters of an axiom, in order.
pub data LetterTrees : Type 0 where
  no_letter : LetterTrees
  more_letters : (letter : Word) → (value : NamedExprTree) → (others : LetterTrees) → LetterTrees

-- Whether an assertion names an axiom, and with what.
pub data NamedViaTree : Type 0 where
  by_itself : NamedViaTree
  via : (axiom_text : Word) → (given : LetterTrees) → NamedViaTree

-- Statements, each with the place of its first token.
mutual
  pub data NamedStmtTree : Type 0 where
    -- `op` is the operator before the `=`, and `sign` the place of the two
    assign : (target : NamedTargetTree) → (op : Option Op) → (sign : Place) → (value : NamedExprTree) → (at : Place) → NamedStmtTree
    -- `=?`
    keep : (target : NamedTargetTree) → (call : NamedCallTree) → (at : Place) → NamedStmtTree
    do_call : (call : NamedCallTree) → (at : Place) → NamedStmtTree
    branch : (arms : NamedArmTrees) → (at : Place) → NamedStmtTree
    loop : (condition : NamedExprTree) → (clauses : NamedClauseTrees) → (body : NamedBlockTree) → (at : Place) → NamedStmtTree
    -- the loop that is meant, by how many loops stand between it and the statement
    leave : (outwards : ℕ) → (at : Place) → NamedStmtTree
    again : (outwards : ℕ) → (at : Place) → NamedStmtTree
    back : (value : NamedPartTree) → (at : Place) → NamedStmtTree
    suspend : (value : NamedExprTree) → (at : Place) → NamedStmtTree
    claim : (goal : NamedExprTree) → (via : NamedViaTree) → (at : Place) → NamedStmtTree

  -- the statements of a block in order, up to the place of its closing brace
  pub data NamedBlockTree : Type 0 where
    close : (at : Place) → NamedBlockTree
    more_stmts : (first : NamedStmtTree) → (others : NamedBlockTree) → NamedBlockTree

  -- the conditions of an `if` in order with their blocks, and the last `else`, if there is one
  pub data NamedArmTrees : Type 0 where
    no_else : NamedArmTrees
    otherwise : (body : NamedBlockTree) → NamedArmTrees
    arm : (condition : NamedExprTree) → (body : NamedBlockTree) → (others : NamedArmTrees) → NamedArmTrees

-- A field, an argument or a local.
pub record VarTree : Type 0 where
  pub name : Word
  pub of : NamedTypeTree

pub record ConstTree : Type 0 where
  pub name : Word
  pub of : NamedTypeTree
  pub value : NamedExprTree

pub record NamedStructTree : Type 0 where
  pub name : Word
  pub public : Bool
  pub fields : List VarTree

-- A method of the struct with the number `of`, with the written result.
pub record NamedMethodTree : Type 0 where
  pub name : Word
  pub of : ℕ
  pub public : Bool
  pub mark : Mark
  pub args : List VarTree
  pub locals : List VarTree
  pub gives : Option NamedTypeTree
  pub body : NamedBlockTree

-- Constants, structs and methods have their places in these lists as their numbers; a status of the package has its
-- place after the ten of the language. `order` has the numbers of all methods, each after those that it calls, and
-- `struct_order` those of all structs, each after those that its fields hold.
pub record NamedPackageTree : Type 0 where
  pub package_name : List ℕ
  pub consts : List ConstTree
  pub statuses : List Word
  pub structs : List NamedStructTree
  pub methods : List NamedMethodTree
  pub order : List ℕ
  pub struct_order : List ℕ
