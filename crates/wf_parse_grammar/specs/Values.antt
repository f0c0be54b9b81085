-- What the machine makes of the tokens that it has read: a stack of values, and the declarations in order. Each
-- action takes values from the top of the stack and puts another one there.
use Rattle.std.specs.Prelude.{Bool, Option, None, Some, List, [], ◌∷◌, ◌++◌}
use Rattle.wf_text.specs.declared.place.Place.{Place}
use Rattle.wf_ast.specs.declared.operators.Op.{Op}
use Rattle.wf_ast.specs.declared.parsed.Name.{Name}
use Rattle.wf_ast.specs.declared.parsed.Path.{Path}
use Rattle.wf_ast.specs.declared.parsed.Receiver.{Receiver}
use Rattle.wf_ast.specs.declared.parsed.Receiver.TheVariants as receivers
use Rattle.wf_ast.specs.declared.parsed.Root.TheVariants as roots
use Rattle.wf_ast.specs.declared.parsed.WrittenMark.{WrittenMark}
use Rattle.wf_ast.specs.declared.parsed.Clause.{Clause}
use Rattle.wf_ast.specs.ParsedTree as tree
use Rattle.wf_ast.specs.ParsedTree.{ExprTree, PartTree, LinkTrees, GivenTrees, CallTree, TypeTree, BoundsTree, TargetTree, ClauseTrees, ViaTree, StmtTree, BlockTree, ArmTrees, FieldTrees, ResultTree, DeclTree}
use Rattle.wf_parse_grammar.specs.declared.symbols.Action.{Action}
use Rattle.wf_parse_grammar.specs.declared.symbols.Action.TheVariants as does

-- A link of a chain, an argument, an arm of an `if`, a promise of a loop, a field.
pub record LinkVal : Type 0 where
  pub sign : Place
  pub operand : ExprTree

pub record GivenVal : Type 0 where
  pub name : Name
  pub value : ExprTree

pub record ArmVal : Type 0 where
  pub condition : ExprTree
  pub body : BlockTree

pub record ClauseVal : Type 0 where
  pub kind : Clause
  pub condition : ExprTree
  pub at : Place

pub record FieldVal : Type 0 where
  pub name : Name
  pub of : TypeTree

-- What a type may begin with.
pub data PrefixVal : Type 0 where
  slice_prefix : (at : Place) → PrefixVal
  array_prefix : (length : ExprTree) → (at : Place) → PrefixVal

-- What a type that begins with `base` names.
pub data CoreVal : Type 0 where
  base_core : (name : Name) → (at : Place) → CoreVal
  status_core : (at : Place) → CoreVal

-- A value: what a part of the grammar means, or what of it is read so far. Lists are in the order of the file.
pub data Val : Type 0 where
  name : Name → Val
  place : Place → Val
  mark : WrittenMark → Val
  public : Bool → Val
  sign : (op : Option Op) → (at : Place) → Val
  path : Path → Val
  receiver : Receiver → Val
  expr : ExprTree → Val
  part : PartTree → Val
  chain : (op : Op) → (first : ExprTree) → (links : List LinkVal) → (at : Place) → Val
  givens : List GivenVal → Val
  call : CallTree → Val
  prefixes : List PrefixVal → Val
  core : CoreVal → Val
  bounds : BoundsTree → Val
  type : TypeTree → Val
  items : List StmtTree → Val
  block : BlockTree → Val
  stmt : StmtTree → Val
  target : TargetTree → Val
  arms : List ArmVal → Val
  otherwise : Option BlockTree → Val
  clauses : List ClauseVal → Val
  label : Option Name → Val
  via : ViaTree → Val
  fields : List FieldVal → Val
  result : ResultTree → Val

-- The values, and the declarations that are read.
pub record Made : Type 0 where
  pub vals : List Val
  pub decls : List DeclTree

-- Lists of values as trees.
abbrev pub link_trees : List LinkVal → LinkTrees
link_trees [] = tree.no_link
link_trees (l ∷ ls) = tree.link l.sign l.operand (link_trees ls)

abbrev pub given_trees : List GivenVal → GivenTrees
given_trees [] = tree.no_given
given_trees (g ∷ gs) = tree.more_given g.name g.value (given_trees gs)

abbrev pub clause_trees : List ClauseVal → ClauseTrees
clause_trees [] = tree.no_clause
clause_trees (c ∷ cs) = tree.more_clauses c.kind c.condition c.at (clause_trees cs)

abbrev pub field_trees : List FieldVal → FieldTrees
field_trees [] = tree.no_field
field_trees (f ∷ fs) = tree.more_fields f.name f.of (field_trees fs)

abbrev pub block_tree : List StmtTree → Place → BlockTree
block_tree [] at = tree.close at
block_tree (s ∷ ss) at = tree.more_stmts s (block_tree ss at)

abbrev pub else_tree : Option BlockTree → ArmTrees
else_tree None = tree.no_else
else_tree (Some b) = tree.otherwise b

abbrev pub arm_trees : List ArmVal → ArmTrees → ArmTrees
arm_trees [] last = last
arm_trees (a ∷ others) last = tree.arm a.condition a.body (arm_trees others last)

abbrev pub core_tree : CoreVal → BoundsTree → TypeTree
core_tree (base_core n at) b = tree.base_type n at b
core_tree (status_core at) b = tree.status_type at b

abbrev pub prefixed : PrefixVal → TypeTree → TypeTree
prefixed (slice_prefix at) t = tree.slice_of at t
prefixed (array_prefix e at) t = tree.array_of e at t

abbrev pub all_prefixed : List PrefixVal → TypeTree → TypeTree
all_prefixed [] t = t
all_prefixed (p ∷ ps) t = prefixed p (all_prefixed ps t)

-- A path with this before its name.
abbrev pub bare_path : Name → Path
bare_path n = record { root = roots.Bare; name = n; at = n.at }

abbrev pub this_path : Place → Name → Path
this_path at n = record { root = roots.This; name = n; at = at }

abbrev pub args_path : Place → Name → Path
args_path at n = record { root = roots.Args; name = n; at = at }

-- The values after an action. Where the topmost values are others than it takes, none are left; this comes of no
-- list of tokens.
abbrev pub path_vals : Action → List Val → List Val
path_vals (does.BarePath n) vs = path (bare_path n) ∷ vs
path_vals does.ThisPath (name n ∷ place p ∷ vs) = path (this_path p n) ∷ vs
path_vals does.ArgsPath (name n ∷ place p ∷ vs) = path (args_path p n) ∷ vs
path_vals does.PathReceiver (path x ∷ vs) = receiver (receivers.Path x) ∷ vs
path_vals does.ThisMethod (name n ∷ place p ∷ vs) = name n ∷ receiver (receivers.This p) ∷ vs
path_vals _ _ = []

abbrev pub expr_vals : Action → List Val → List Val
expr_vals (does.NumberExpr n p) vs = expr (tree.number n p) ∷ vs
expr_vals (does.OwnStatusExpr n) vs = expr (tree.own_status n) ∷ vs
expr_vals does.BaseStatusExpr (name n ∷ place p ∷ vs) = expr (tree.base_status n p) ∷ vs
expr_vals (does.FineExpr p) vs = expr (tree.fine p) ∷ vs
expr_vals (does.TruthExpr b p) vs = expr (tree.truth b p) ∷ vs
expr_vals does.PathExpr (path x ∷ vs) = expr (tree.path x) ∷ vs
expr_vals does.IndexExpr (expr e ∷ place p ∷ path x ∷ vs) = expr (tree.index x e p) ∷ vs
expr_vals does.SliceExpr (part j ∷ part i ∷ place p ∷ path x ∷ vs) = expr (tree.slice x i j p) ∷ vs
expr_vals does.CallExpr (call c ∷ vs) = expr (tree.answer c) ∷ vs
expr_vals does.NotExpr (expr e ∷ place p ∷ vs) = expr (tree.negation e p) ∷ vs
expr_vals does.ConvertExpr (type t ∷ place p ∷ expr e ∷ vs) = expr (tree.convert e t p) ∷ vs
expr_vals (does.StartChain op p) (expr e ∷ vs) = chain op e [] p ∷ vs
expr_vals does.AddLink (expr e ∷ place p ∷ chain op first links at ∷ vs) = chain op first (links ++ record { sign = p; operand = e } ∷ []) at ∷ vs
expr_vals does.FinishChain (chain op first links at ∷ vs) = expr (tree.chain op first (link_trees links) at) ∷ vs
expr_vals does.NoPart vs = part tree.absent ∷ vs
expr_vals does.SomePart (expr e ∷ vs) = part (tree.present e) ∷ vs
expr_vals does.StartGivens vs = givens [] ∷ vs
expr_vals does.AddGiven (expr e ∷ name n ∷ givens gs ∷ vs) = givens (gs ++ record { name = n; value = e } ∷ []) ∷ vs
expr_vals does.FinishCall (givens gs ∷ mark m ∷ name n ∷ receiver r ∷ vs) = call (tree.call r n m (given_trees gs)) ∷ vs
expr_vals _ _ = []

abbrev pub type_vals : Action → List Val → List Val
type_vals does.StartType vs = prefixes [] ∷ vs
type_vals (does.AddSlice p) (prefixes ps ∷ vs) = prefixes (ps ++ slice_prefix p ∷ []) ∷ vs
type_vals does.AddArray (expr e ∷ place p ∷ prefixes ps ∷ vs) = prefixes (ps ++ array_prefix e p ∷ []) ∷ vs
type_vals (does.StructType n) (prefixes ps ∷ vs) = type (all_prefixed ps (tree.struct_type n)) ∷ vs
type_vals (does.BaseCore n) (place p ∷ vs) = core (base_core n p) ∷ vs
type_vals does.StatusCore (place p ∷ vs) = core (status_core p) ∷ vs
type_vals does.NoBounds vs = bounds tree.unrefined ∷ vs
type_vals does.SomeBounds (expr e ∷ part low ∷ vs) = bounds (tree.refined low e) ∷ vs
type_vals does.FinishType (bounds b ∷ core c ∷ prefixes ps ∷ vs) = type (all_prefixed ps (core_tree c b)) ∷ vs
type_vals _ _ = []

abbrev pub stmt_vals : Action → List Val → List Val
stmt_vals does.StartItems vs = items [] ∷ vs
stmt_vals does.AddStmt (stmt s ∷ items ss ∷ vs) = items (ss ++ s ∷ []) ∷ vs
stmt_vals (does.CloseBlock p) (items ss ∷ vs) = block (block_tree ss p) ∷ vs
stmt_vals does.VarStmt (type t ∷ name n ∷ place p ∷ vs) = stmt (tree.var n t p) ∷ vs
stmt_vals does.PathTarget (path x ∷ vs) = target (tree.to_path x) ∷ vs
stmt_vals does.ElementTarget (expr e ∷ place p ∷ path x ∷ vs) = target (tree.to_element x e p) ∷ vs
stmt_vals does.AssignStmt (expr e ∷ sign op q ∷ target t ∷ place p ∷ vs) = stmt (tree.assign t op q e p) ∷ vs
stmt_vals does.KeepStmt (call c ∷ target t ∷ place p ∷ vs) = stmt (tree.keep t c p) ∷ vs
stmt_vals does.CallStmt (call c ∷ place p ∷ vs) = stmt (tree.do_call c p) ∷ vs
stmt_vals does.StartArms vs = arms [] ∷ vs
stmt_vals does.AddArm (block b ∷ expr e ∷ arms so_far ∷ vs) = arms (so_far ++ record { condition = e; body = b } ∷ []) ∷ vs
stmt_vals does.NoElse vs = otherwise None ∷ vs
stmt_vals does.SomeElse (block b ∷ vs) = otherwise (Some b) ∷ vs
stmt_vals does.IfStmt (otherwise o ∷ arms so_far ∷ place p ∷ vs) = stmt (tree.branch (arm_trees so_far (else_tree o)) p) ∷ vs
stmt_vals _ _ = []

abbrev pub more_stmt_vals : Action → List Val → List Val
more_stmt_vals does.StartClauses vs = clauses [] ∷ vs
more_stmt_vals (does.AddClause kind) (expr e ∷ place p ∷ clauses cs ∷ vs) = clauses (cs ++ record { kind = kind; condition = e; at = p } ∷ []) ∷ vs
more_stmt_vals does.LoopStmt (block b ∷ clauses cs ∷ expr e ∷ place p ∷ vs) = stmt (tree.loop None e (clause_trees cs) b p) ∷ vs
more_stmt_vals does.LabelledStmt (block b ∷ clauses cs ∷ expr e ∷ name n ∷ place p ∷ vs) = stmt (tree.loop (Some n) e (clause_trees cs) b p) ∷ vs
more_stmt_vals does.NoLabel vs = label None ∷ vs
more_stmt_vals does.SomeLabel (name n ∷ vs) = label (Some n) ∷ vs
more_stmt_vals does.BreakStmt (label l ∷ place p ∷ vs) = stmt (tree.leave l p) ∷ vs
more_stmt_vals does.ContinueStmt (label l ∷ place p ∷ vs) = stmt (tree.again l p) ∷ vs
more_stmt_vals does.ReturnStmt (part e ∷ place p ∷ vs) = stmt (tree.back e p) ∷ vs
more_stmt_vals does.YieldStmt (expr e ∷ place p ∷ vs) = stmt (tree.suspend e p) ∷ vs
more_stmt_vals does.NoVia vs = via tree.by_itself ∷ vs
more_stmt_vals does.SomeVia (givens gs ∷ name n ∷ vs) = via (tree.via n (given_trees gs)) ∷ vs
more_stmt_vals does.AssertStmt (via v ∷ expr e ∷ place p ∷ vs) = stmt (tree.claim e v p) ∷ vs
more_stmt_vals _ _ = []

abbrev pub field_vals : Action → List Val → List Val
field_vals does.StartFields vs = fields [] ∷ vs
field_vals does.AddField (type t ∷ name n ∷ fields fs ∷ vs) = fields (fs ++ record { name = n; of = t } ∷ []) ∷ vs
field_vals does.NoResult (prefixes ps ∷ vs) = result tree.gives_nothing ∷ vs
field_vals does.SomeResult (type t ∷ vs) = result (tree.gives t) ∷ vs
field_vals _ _ = []

-- The declaration that an action makes, with the values that it leaves.
abbrev pub decl_made : Action → List Val → List DeclTree → Made
decl_made does.StatusDecl (name n ∷ place w ∷ public b ∷ vs) ds = record { vals = vs; decls = ds ++ tree.status b n w ∷ [] }
decl_made does.ConstDecl (expr e ∷ type t ∷ name n ∷ place w ∷ public b ∷ vs) ds = record { vals = vs; decls = ds ++ tree.constant b n t e w ∷ [] }
decl_made does.StructDecl (fields fs ∷ mark m ∷ name n ∷ place w ∷ public b ∷ vs) ds = record { vals = vs; decls = ds ++ tree.structure b n m (field_trees fs) w ∷ [] }
decl_made does.MethodDecl (block body ∷ result r ∷ fields fs ∷ mark m ∷ name n ∷ name o ∷ place w ∷ public b ∷ vs) ds = record { vals = vs; decls = ds ++ tree.method b o n m (field_trees fs) r body w ∷ [] }
decl_made _ _ ds = record { vals = []; decls = ds }

-- What an action makes of all that was made before.
abbrev pub on_vals : (List Val → List Val) → Made → Made
on_vals f made = record { vals = f made.vals; decls = made.decls }

abbrev pub perform : Action → Made → Made
perform (does.PushName n) made = on_vals (λ vs. name n ∷ vs) made
perform (does.PushPlace p) made = on_vals (λ vs. place p ∷ vs) made
perform (does.PushMark m) made = on_vals (λ vs. mark m ∷ vs) made
perform (does.PushPublic b) made = on_vals (λ vs. public b ∷ vs) made
perform (does.PushSign op p) made = on_vals (λ vs. sign op p ∷ vs) made
perform (does.BarePath n) made = on_vals (path_vals (does.BarePath n)) made
perform does.ThisPath made = on_vals (path_vals does.ThisPath) made
perform does.ArgsPath made = on_vals (path_vals does.ArgsPath) made
perform does.PathReceiver made = on_vals (path_vals does.PathReceiver) made
perform does.ThisMethod made = on_vals (path_vals does.ThisMethod) made
perform (does.NumberExpr n p) made = on_vals (expr_vals (does.NumberExpr n p)) made
perform (does.OwnStatusExpr n) made = on_vals (expr_vals (does.OwnStatusExpr n)) made
perform does.BaseStatusExpr made = on_vals (expr_vals does.BaseStatusExpr) made
perform (does.FineExpr p) made = on_vals (expr_vals (does.FineExpr p)) made
perform (does.TruthExpr b p) made = on_vals (expr_vals (does.TruthExpr b p)) made
perform does.PathExpr made = on_vals (expr_vals does.PathExpr) made
perform does.IndexExpr made = on_vals (expr_vals does.IndexExpr) made
perform does.SliceExpr made = on_vals (expr_vals does.SliceExpr) made
perform does.CallExpr made = on_vals (expr_vals does.CallExpr) made
perform does.NotExpr made = on_vals (expr_vals does.NotExpr) made
perform does.ConvertExpr made = on_vals (expr_vals does.ConvertExpr) made
perform (does.StartChain op p) made = on_vals (expr_vals (does.StartChain op p)) made
perform does.AddLink made = on_vals (expr_vals does.AddLink) made
perform does.FinishChain made = on_vals (expr_vals does.FinishChain) made
perform does.NoPart made = on_vals (expr_vals does.NoPart) made
perform does.SomePart made = on_vals (expr_vals does.SomePart) made
perform does.StartGivens made = on_vals (expr_vals does.StartGivens) made
perform does.AddGiven made = on_vals (expr_vals does.AddGiven) made
perform does.FinishCall made = on_vals (expr_vals does.FinishCall) made
perform does.StartType made = on_vals (type_vals does.StartType) made
perform (does.AddSlice p) made = on_vals (type_vals (does.AddSlice p)) made
perform does.AddArray made = on_vals (type_vals does.AddArray) made
perform (does.StructType n) made = on_vals (type_vals (does.StructType n)) made
perform (does.BaseCore n) made = on_vals (type_vals (does.BaseCore n)) made
perform does.StatusCore made = on_vals (type_vals does.StatusCore) made
perform does.NoBounds made = on_vals (type_vals does.NoBounds) made
perform does.SomeBounds made = on_vals (type_vals does.SomeBounds) made
perform does.FinishType made = on_vals (type_vals does.FinishType) made
perform does.StartItems made = on_vals (stmt_vals does.StartItems) made
perform does.AddStmt made = on_vals (stmt_vals does.AddStmt) made
perform (does.CloseBlock p) made = on_vals (stmt_vals (does.CloseBlock p)) made
perform does.VarStmt made = on_vals (stmt_vals does.VarStmt) made
perform does.PathTarget made = on_vals (stmt_vals does.PathTarget) made
perform does.ElementTarget made = on_vals (stmt_vals does.ElementTarget) made
perform does.AssignStmt made = on_vals (stmt_vals does.AssignStmt) made
perform does.KeepStmt made = on_vals (stmt_vals does.KeepStmt) made
perform does.CallStmt made = on_vals (stmt_vals does.CallStmt) made
perform does.StartArms made = on_vals (stmt_vals does.StartArms) made
perform does.AddArm made = on_vals (stmt_vals does.AddArm) made
perform does.NoElse made = on_vals (stmt_vals does.NoElse) made
perform does.SomeElse made = on_vals (stmt_vals does.SomeElse) made
perform does.IfStmt made = on_vals (stmt_vals does.IfStmt) made
perform does.StartClauses made = on_vals (more_stmt_vals does.StartClauses) made
perform (does.AddClause kind) made = on_vals (more_stmt_vals (does.AddClause kind)) made
perform does.LoopStmt made = on_vals (more_stmt_vals does.LoopStmt) made
perform does.LabelledStmt made = on_vals (more_stmt_vals does.LabelledStmt) made
perform does.NoLabel made = on_vals (more_stmt_vals does.NoLabel) made
perform does.SomeLabel made = on_vals (more_stmt_vals does.SomeLabel) made
perform does.BreakStmt made = on_vals (more_stmt_vals does.BreakStmt) made
perform does.ContinueStmt made = on_vals (more_stmt_vals does.ContinueStmt) made
perform does.ReturnStmt made = on_vals (more_stmt_vals does.ReturnStmt) made
perform does.YieldStmt made = on_vals (more_stmt_vals does.YieldStmt) made
perform does.NoVia made = on_vals (more_stmt_vals does.NoVia) made
perform does.SomeVia made = on_vals (more_stmt_vals does.SomeVia) made
perform does.AssertStmt made = on_vals (more_stmt_vals does.AssertStmt) made
perform does.StartFields made = on_vals (field_vals does.StartFields) made
perform does.AddField made = on_vals (field_vals does.AddField) made
perform does.NoResult made = on_vals (field_vals does.NoResult) made
perform does.SomeResult made = on_vals (field_vals does.SomeResult) made
perform does.StatusDecl made = decl_made does.StatusDecl made.vals made.decls
perform does.ConstDecl made = decl_made does.ConstDecl made.vals made.decls
perform does.StructDecl made = decl_made does.StructDecl made.vals made.decls
perform does.MethodDecl made = decl_made does.MethodDecl made.vals made.decls
