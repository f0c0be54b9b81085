use Rattle.std.proofs.Common.{◌≡◌, refl}
use Rattle.wf_parse_grammar.specs.declared.symbols.Action.TheVariants as does
use Rattle.wf_parse_nodes.specs.declared.actions.ActionKind.TheVariants as kinds
use Rattle.wf_parse_nodes.specs.Shapes.{kind_of}
use Rattle.wf_parse_nodes.proofs.actions.kind_of.Goals as goal

pub returns-in_default : goal.returns-in_default
returns-in_default c =
    elim c.args.action as (λ a. c.args.action ≡ a → kinds.Value ≡ kind_of a) [
      | does.ThisMethod ↦ λ e. absurd (c.in_default.not-ThisMethod e)
      | does.AddLink ↦ λ e. absurd (c.in_default.not-AddLink e)
      | does.AddGiven ↦ λ e. absurd (c.in_default.not-AddGiven e)
      | does.AddSlice a ↦ λ e. absurd (c.in_default.not-AddSlice a e)
      | does.AddArray ↦ λ e. absurd (c.in_default.not-AddArray e)
      | does.AddStmt ↦ λ e. absurd (c.in_default.not-AddStmt e)
      | does.AddArm ↦ λ e. absurd (c.in_default.not-AddArm e)
      | does.AddClause a ↦ λ e. absurd (c.in_default.not-AddClause a e)
      | does.AddField ↦ λ e. absurd (c.in_default.not-AddField e)
      | does.NumberExpr a b ↦ λ e. absurd (c.in_default.not-NumberExpr a b e)
      | does.OwnStatusExpr a ↦ λ e. absurd (c.in_default.not-OwnStatusExpr a e)
      | does.BaseStatusExpr ↦ λ e. absurd (c.in_default.not-BaseStatusExpr e)
      | does.FineExpr a ↦ λ e. absurd (c.in_default.not-FineExpr a e)
      | does.TruthExpr a b ↦ λ e. absurd (c.in_default.not-TruthExpr a b e)
      | does.PathExpr ↦ λ e. absurd (c.in_default.not-PathExpr e)
      | does.IndexExpr ↦ λ e. absurd (c.in_default.not-IndexExpr e)
      | does.SliceExpr ↦ λ e. absurd (c.in_default.not-SliceExpr e)
      | does.CallExpr ↦ λ e. absurd (c.in_default.not-CallExpr e)
      | does.NotExpr ↦ λ e. absurd (c.in_default.not-NotExpr e)
      | does.ConvertExpr ↦ λ e. absurd (c.in_default.not-ConvertExpr e)
      | does.FinishChain ↦ λ e. absurd (c.in_default.not-FinishChain e)
      | does.VarStmt ↦ λ e. absurd (c.in_default.not-VarStmt e)
      | does.AssignStmt ↦ λ e. absurd (c.in_default.not-AssignStmt e)
      | does.KeepStmt ↦ λ e. absurd (c.in_default.not-KeepStmt e)
      | does.CallStmt ↦ λ e. absurd (c.in_default.not-CallStmt e)
      | does.IfStmt ↦ λ e. absurd (c.in_default.not-IfStmt e)
      | does.LoopStmt ↦ λ e. absurd (c.in_default.not-LoopStmt e)
      | does.LabelledStmt ↦ λ e. absurd (c.in_default.not-LabelledStmt e)
      | does.BreakStmt ↦ λ e. absurd (c.in_default.not-BreakStmt e)
      | does.ContinueStmt ↦ λ e. absurd (c.in_default.not-ContinueStmt e)
      | does.ReturnStmt ↦ λ e. absurd (c.in_default.not-ReturnStmt e)
      | does.YieldStmt ↦ λ e. absurd (c.in_default.not-YieldStmt e)
      | does.AssertStmt ↦ λ e. absurd (c.in_default.not-AssertStmt e)
      | does.StatusDecl ↦ λ e. absurd (c.in_default.not-StatusDecl e)
      | does.ConstDecl ↦ λ e. absurd (c.in_default.not-ConstDecl e)
      | does.StructDecl ↦ λ e. absurd (c.in_default.not-StructDecl e)
      | does.MethodDecl ↦ λ e. absurd (c.in_default.not-MethodDecl e)
      | _ ↦ λ e. refl
    ] refl
