-- The parsed tree: what the files of a package say, as mathematical trees. Texts stand by their numbers.
use Rattle.std.specs.Prelude.{ℕ, Bool, Option}
use Rattle.wf_text.specs.declared.place.Place.{Place}
use Rattle.wf_ast.specs.declared.operators.Op.{Op}
use Rattle.wf_ast.specs.declared.parsed.Clause.{Clause}
use Rattle.wf_ast.specs.declared.parsed.Name.{Name}
use Rattle.wf_ast.specs.declared.parsed.Path.{Path}
use Rattle.wf_ast.specs.declared.parsed.Receiver.{Receiver}
use Rattle.wf_ast.specs.declared.parsed.WrittenMark.{WrittenMark}

-- Expressions, and the types that stand in them. `at` is the place of a literal, of a first operator sign, or of
-- a `[`; a path has its own, and a call has that of its method's name.
mutual
  pub data ExprTree : Type 0 where
    number : (value : ℕ) → (at : Place) → ExprTree
    -- a status of the package, and one of the language: `base.` and a text
    own_status : (text : Name) → ExprTree
    base_status : (text : Name) → (at : Place) → ExprTree
    fine : (at : Place) → ExprTree
    truth : (value : Bool) → (at : Place) → ExprTree
    path : (path : Path) → ExprTree
    index : (base : Path) → (place : ExprTree) → (at : Place) → ExprTree
    slice : (base : Path) → (from : PartTree) → (to : PartTree) → (at : Place) → ExprTree
    answer : (call : CallTree) → ExprTree
    -- one operator between operands in order
    chain : (op : Op) → (first : ExprTree) → (links : LinkTrees) → (at : Place) → ExprTree
    convert : (of : ExprTree) → (to : TypeTree) → (at : Place) → ExprTree
    negation : (of : ExprTree) → (at : Place) → ExprTree

  -- an expression that may be absent
  pub data PartTree : Type 0 where
    absent : PartTree
    present : (part : ExprTree) → PartTree

  -- the operands of a chain after its first, in order, each with the place of the sign before it
  pub data LinkTrees : Type 0 where
    no_link : LinkTrees
    link : (sign : Place) → (operand : ExprTree) → (others : LinkTrees) → LinkTrees

  -- arguments by name, in order
  pub data GivenTrees : Type 0 where
    no_given : GivenTrees
    more_given : (name : Name) → (value : ExprTree) → (others : GivenTrees) → GivenTrees

  pub data CallTree : Type 0 where
    call : (on : Receiver) → (method : Name) → (mark : WrittenMark) → (args : GivenTrees) → CallTree

  -- types; `at` is the place of the type's first token
  pub data TypeTree : Type 0 where
    slice_of : (at : Place) → (element : TypeTree) → TypeTree
    array_of : (length : ExprTree) → (at : Place) → (element : TypeTree) → TypeTree
    base_type : (name : Name) → (at : Place) → (bounds : BoundsTree) → TypeTree
    status_type : (at : Place) → (bounds : BoundsTree) → TypeTree
    struct_type : (name : Name) → TypeTree

  pub data BoundsTree : Type 0 where
    unrefined : BoundsTree
    refined : (low : PartTree) → (high : ExprTree) → BoundsTree

-- What is written to; `at` is the place of the `[`.
pub data TargetTree : Type 0 where
  to_path : (path : Path) → TargetTree
  to_element : (base : Path) → (place : ExprTree) → (at : Place) → TargetTree

-- The promises of a loop, in order, each with the place of its word.
pub data ClauseTrees : Type 0 where
  no_clause : ClauseTrees
  more_clauses : (kind : Clause) → (condition : ExprTree) → (at : Place) → (others : ClauseTrees) → ClauseTrees

-- Whether an assertion names an axiom, and with what.
pub data ViaTree : Type 0 where
  by_itself : ViaTree
  via : (axiom_name : Name) → (given : GivenTrees) → ViaTree

-- Statements, each with the place of its first token.
mutual
  pub data StmtTree : Type 0 where
    var : (name : Name) → (of : TypeTree) → (at : Place) → StmtTree
    -- `op` is the operator before the `=`, and `sign` the place of the two
    assign : (target : TargetTree) → (op : Option Op) → (sign : Place) → (value : ExprTree) → (at : Place) → StmtTree
    -- `=?`
    keep : (target : TargetTree) → (call : CallTree) → (at : Place) → StmtTree
    do_call : (call : CallTree) → (at : Place) → StmtTree
    branch : (arms : ArmTrees) → (at : Place) → StmtTree
    loop : (label : Option Name) → (condition : ExprTree) → (clauses : ClauseTrees) → (body : BlockTree) → (at : Place) → StmtTree
    leave : (label : Option Name) → (at : Place) → StmtTree
    again : (label : Option Name) → (at : Place) → StmtTree
    back : (value : PartTree) → (at : Place) → StmtTree
    suspend : (value : ExprTree) → (at : Place) → StmtTree
    claim : (goal : ExprTree) → (via : ViaTree) → (at : Place) → StmtTree

  -- the statements of a block in order, up to the place of its closing brace
  pub data BlockTree : Type 0 where
    close : (at : Place) → BlockTree
    more_stmts : (first : StmtTree) → (others : BlockTree) → BlockTree

  -- the conditions of an `if` in order with their blocks, and the last `else`, if there is one
  pub data ArmTrees : Type 0 where
    no_else : ArmTrees
    otherwise : (body : BlockTree) → ArmTrees
    arm : (condition : ExprTree) → (body : BlockTree) → (others : ArmTrees) → ArmTrees

-- The fields of a struct or the arguments of a method.
pub data FieldTrees : Type 0 where
  no_field : FieldTrees
  more_fields : (name : Name) → (of : TypeTree) → (others : FieldTrees) → FieldTrees

-- What a method's declaration says of its result.
pub data ResultTree : Type 0 where
  gives_nothing : ResultTree
  gives : (of : TypeTree) → ResultTree

-- Declarations; `at` is the place of the word `status`, `const`, `struct` or `func`.
pub data DeclTree : Type 0 where
  status : (public : Bool) → (text : Name) → (at : Place) → DeclTree
  constant : (public : Bool) → (name : Name) → (of : TypeTree) → (value : ExprTree) → (at : Place) → DeclTree
  structure : (public : Bool) → (name : Name) → (mark : WrittenMark) → (fields : FieldTrees) → (at : Place) → DeclTree
  method : (public : Bool) → (owner : Name) → (name : Name) → (mark : WrittenMark) → (args : FieldTrees) → (result : ResultTree) → (body : BlockTree) → (at : Place) → DeclTree
