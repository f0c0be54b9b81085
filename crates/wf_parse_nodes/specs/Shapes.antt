-- The shapes of values, and which values the actions take from the top of the stack.
use Rattle.std.specs.Prelude.{Bool, true, false, List, [], ◌∷◌}
use Rattle.stacks.specs.Shapes.{all_fit}
use Rattle.wf_parse_grammar.specs.declared.symbols.Action.{Action}
use Rattle.wf_parse_grammar.specs.declared.symbols.Action.TheVariants as does
use Rattle.wf_parse_nodes.specs.declared.actions.ActionKind.{ActionKind}
use Rattle.wf_parse_nodes.specs.declared.actions.ActionKind.TheVariants as kinds
use Rattle.wf_parse_nodes.specs.declared.shapes.Shape.{Shape}
use Rattle.wf_parse_nodes.specs.declared.shapes.Shape.TheVariants as shapes
use Rattle.wf_parse_nodes.specs.declared.values.SemanticValue.{SemanticValue}
use Rattle.wf_parse_nodes.specs.declared.values.SemanticValue.TheVariants as vals

abbrev pub is_shape : Shape → SemanticValue → Bool
is_shape shapes.Name (vals.Name _) = true
is_shape shapes.Place (vals.Place _) = true
is_shape shapes.Mark (vals.Mark _) = true
is_shape shapes.Public (vals.Public _) = true
is_shape shapes.Sign (vals.Sign _) = true
is_shape shapes.Path (vals.Path _) = true
is_shape shapes.Receiver (vals.Receiver _) = true
is_shape shapes.Expr (vals.Expr _) = true
is_shape shapes.Part (vals.Part _) = true
is_shape shapes.Chain (vals.Chain _) = true
is_shape shapes.Givens (vals.Givens _) = true
is_shape shapes.Call (vals.Call _) = true
is_shape shapes.Prefixes (vals.Prefixes _) = true
is_shape shapes.Core (vals.Core _) = true
is_shape shapes.Bounds (vals.Bounds _) = true
is_shape shapes.Type (vals.Type _) = true
is_shape shapes.Items (vals.Items _) = true
is_shape shapes.Block (vals.Block _) = true
is_shape shapes.Stmt (vals.Stmt _) = true
is_shape shapes.Target (vals.Target _) = true
is_shape shapes.Arms (vals.Arms _) = true
is_shape shapes.Otherwise (vals.Otherwise _) = true
is_shape shapes.Clauses (vals.Clauses _) = true
is_shape shapes.Label (vals.Label _) = true
is_shape shapes.Via (vals.Via _) = true
is_shape shapes.Fields (vals.Fields _) = true
is_shape shapes.Result (vals.Result _) = true
is_shape _ _ = false

-- The topmost values have these shapes.
abbrev pub fits : List Shape → List SemanticValue → Bool
fits ss vs = all_fit is_shape ss vs

-- What an action takes, the topmost first.
abbrev pub takes : Action → List Shape
takes (does.PushName name) = []
takes (does.PushPlace at) = []
takes (does.PushMark mark) = []
takes (does.PushPublic public) = []
takes (does.PushSign op at) = []
takes (does.BarePath name) = []
takes does.ThisPath = shapes.Name ∷ shapes.Place ∷ []
takes does.ArgsPath = shapes.Name ∷ shapes.Place ∷ []
takes does.PathReceiver = shapes.Path ∷ []
takes does.ThisMethod = shapes.Name ∷ shapes.Place ∷ []
takes (does.NumberExpr value at) = []
takes (does.OwnStatusExpr name) = []
takes does.BaseStatusExpr = shapes.Name ∷ shapes.Place ∷ []
takes (does.FineExpr at) = []
takes (does.TruthExpr value at) = []
takes does.PathExpr = shapes.Path ∷ []
takes does.IndexExpr = shapes.Expr ∷ shapes.Place ∷ shapes.Path ∷ []
takes does.SliceExpr = shapes.Part ∷ shapes.Part ∷ shapes.Place ∷ shapes.Path ∷ []
takes does.CallExpr = shapes.Call ∷ []
takes does.NotExpr = shapes.Expr ∷ shapes.Place ∷ []
takes does.ConvertExpr = shapes.Type ∷ shapes.Place ∷ shapes.Expr ∷ []
takes (does.StartChain op at) = shapes.Expr ∷ []
takes does.AddLink = shapes.Expr ∷ shapes.Place ∷ shapes.Chain ∷ []
takes does.FinishChain = shapes.Chain ∷ []
takes does.NoPart = []
takes does.SomePart = shapes.Expr ∷ []
takes does.StartGivens = []
takes does.AddGiven = shapes.Expr ∷ shapes.Name ∷ shapes.Givens ∷ []
takes does.FinishCall = shapes.Givens ∷ shapes.Mark ∷ shapes.Name ∷ shapes.Receiver ∷ []
takes does.StartType = []
takes (does.AddSlice at) = shapes.Prefixes ∷ []
takes does.AddArray = shapes.Expr ∷ shapes.Place ∷ shapes.Prefixes ∷ []
takes (does.StructType name) = shapes.Prefixes ∷ []
takes (does.BaseCore name) = shapes.Place ∷ []
takes does.StatusCore = shapes.Place ∷ []
takes does.NoBounds = []
takes does.SomeBounds = shapes.Expr ∷ shapes.Part ∷ []
takes does.FinishType = shapes.Bounds ∷ shapes.Core ∷ shapes.Prefixes ∷ []
takes does.StartItems = []
takes does.AddStmt = shapes.Stmt ∷ shapes.Items ∷ []
takes (does.CloseBlock close) = shapes.Items ∷ []
takes does.VarStmt = shapes.Type ∷ shapes.Name ∷ shapes.Place ∷ []
takes does.PathTarget = shapes.Path ∷ []
takes does.ElementTarget = shapes.Expr ∷ shapes.Place ∷ shapes.Path ∷ []
takes does.AssignStmt = shapes.Expr ∷ shapes.Sign ∷ shapes.Target ∷ shapes.Place ∷ []
takes does.KeepStmt = shapes.Call ∷ shapes.Target ∷ shapes.Place ∷ []
takes does.CallStmt = shapes.Call ∷ shapes.Place ∷ []
takes does.StartArms = []
takes does.AddArm = shapes.Block ∷ shapes.Expr ∷ shapes.Arms ∷ []
takes does.NoElse = []
takes does.SomeElse = shapes.Block ∷ []
takes does.IfStmt = shapes.Otherwise ∷ shapes.Arms ∷ shapes.Place ∷ []
takes does.StartClauses = []
takes (does.AddClause kind) = shapes.Expr ∷ shapes.Place ∷ shapes.Clauses ∷ []
takes does.LoopStmt = shapes.Block ∷ shapes.Clauses ∷ shapes.Expr ∷ shapes.Place ∷ []
takes does.LabelledStmt = shapes.Block ∷ shapes.Clauses ∷ shapes.Expr ∷ shapes.Name ∷ shapes.Place ∷ []
takes does.NoLabel = []
takes does.SomeLabel = shapes.Name ∷ []
takes does.BreakStmt = shapes.Label ∷ shapes.Place ∷ []
takes does.ContinueStmt = shapes.Label ∷ shapes.Place ∷ []
takes does.ReturnStmt = shapes.Part ∷ shapes.Place ∷ []
takes does.YieldStmt = shapes.Expr ∷ shapes.Place ∷ []
takes does.NoVia = []
takes does.SomeVia = shapes.Givens ∷ shapes.Name ∷ []
takes does.AssertStmt = shapes.Via ∷ shapes.Expr ∷ shapes.Place ∷ []
takes does.StartFields = []
takes does.AddField = shapes.Type ∷ shapes.Name ∷ shapes.Fields ∷ []
takes does.NoResult = shapes.Prefixes ∷ []
takes does.SomeResult = shapes.Type ∷ []
takes does.StatusDecl = shapes.Name ∷ shapes.Place ∷ shapes.Public ∷ []
takes does.ConstDecl = shapes.Expr ∷ shapes.Type ∷ shapes.Name ∷ shapes.Place ∷ shapes.Public ∷ []
takes does.StructDecl = shapes.Fields ∷ shapes.Mark ∷ shapes.Name ∷ shapes.Place ∷ shapes.Public ∷ []
takes does.MethodDecl = shapes.Block ∷ shapes.Result ∷ shapes.Fields ∷ shapes.Mark ∷ shapes.Name ∷ shapes.Name ∷ shapes.Place ∷ shapes.Public ∷ []

-- It takes nothing from the stack and pushes one value.
abbrev pub pushes : Action → Bool
pushes (does.PushName _) = true
pushes (does.PushPlace _) = true
pushes (does.PushMark _) = true
pushes (does.PushPublic _) = true
pushes (does.PushSign _ _) = true
pushes (does.BarePath _) = true
pushes does.NoPart = true
pushes does.StartGivens = true
pushes does.StartType = true
pushes does.NoBounds = true
pushes does.StartItems = true
pushes does.StartArms = true
pushes does.NoElse = true
pushes does.StartClauses = true
pushes does.NoLabel = true
pushes does.NoVia = true
pushes does.StartFields = true
pushes _ = false

-- What kind of thing it makes: a value, one for which memory may be wanted, or a node.
abbrev pub kind_of : Action → ActionKind
kind_of does.ThisMethod = kinds.Grown
kind_of does.AddLink = kinds.Grown
kind_of does.AddGiven = kinds.Grown
kind_of (does.AddSlice _) = kinds.Grown
kind_of does.AddArray = kinds.Grown
kind_of does.AddStmt = kinds.Grown
kind_of does.AddArm = kinds.Grown
kind_of (does.AddClause _) = kinds.Grown
kind_of does.AddField = kinds.Grown
kind_of (does.NumberExpr _ _) = kinds.Expr
kind_of (does.OwnStatusExpr _) = kinds.Expr
kind_of does.BaseStatusExpr = kinds.Expr
kind_of (does.FineExpr _) = kinds.Expr
kind_of (does.TruthExpr _ _) = kinds.Expr
kind_of does.PathExpr = kinds.Expr
kind_of does.IndexExpr = kinds.Expr
kind_of does.SliceExpr = kinds.Expr
kind_of does.CallExpr = kinds.Expr
kind_of does.NotExpr = kinds.Expr
kind_of does.ConvertExpr = kinds.Expr
kind_of does.FinishChain = kinds.Expr
kind_of does.VarStmt = kinds.Stmt
kind_of does.AssignStmt = kinds.Stmt
kind_of does.KeepStmt = kinds.Stmt
kind_of does.CallStmt = kinds.Stmt
kind_of does.IfStmt = kinds.Stmt
kind_of does.LoopStmt = kinds.Stmt
kind_of does.LabelledStmt = kinds.Stmt
kind_of does.BreakStmt = kinds.Stmt
kind_of does.ContinueStmt = kinds.Stmt
kind_of does.ReturnStmt = kinds.Stmt
kind_of does.YieldStmt = kinds.Stmt
kind_of does.AssertStmt = kinds.Stmt
kind_of does.StatusDecl = kinds.Decl
kind_of does.ConstDecl = kinds.Decl
kind_of does.StructDecl = kinds.Decl
kind_of does.MethodDecl = kinds.Decl
kind_of _ = kinds.Value
