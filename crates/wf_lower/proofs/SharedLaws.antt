-- What the functions of all methods have in common stays while a unit grows.
use Rattle.std.proofs.Common.{◌≡◌, ◌∙◌, ap, ℕ, List, length, refl}
use Rattle.wf_text.specs.Surface.{AnswerKind}
use Rattle.c_text.specs.declared.ids.CExprId.{CExprId}
use Rattle.c_text.specs.CFits.{HasTarget}
use Rattle.c_text.specs.declared.kinds.COp.{COp}
use Rattle.c_text.specs.CNodes.{Nodes}
use Rattle.c_text.specs.CTree.{Code, ExprTree, assign}
use Rattle.wf_exprs.specs.Grown.{Grows, HasExpr}
use Rattle.wf_exprs.specs.Words.{of_self, two}
use Rattle.wf_exprs.proofs.Growing.{kept_expr, kept_name}
use Rattle.wf_exprs_nodes.proofs.ItemLaws.{code_kept}
use Rattle.wf_lower.specs.declared.shared.AllRefusals.{AllRefusals}
use Rattle.wf_lower.specs.declared.shared.EntryExprs.{EntryExprs}
use Rattle.wf_lower.specs.declared.shared.EntryParts.{EntryParts}
use Rattle.wf_lower.specs.declared.shared.OwnNames.{OwnNames}
use Rattle.wf_lower.specs.declared.shared.Refusals.{Refusals}
use Rattle.wf_lower.specs.declared.shared.Shared.{Shared}
use Rattle.wf_lower.specs.Shared.{HasAllRefusals, HasEntryExprs, HasEntryParts, HasOwnNames, HasRefusals, HasShared}

pub kept_names : {a b : Nodes} (k : OwnNames) → Grows a b → HasOwnNames a k → HasOwnNames b k
kept_names k g h = record {
  status = kept_name _ _ g h.status;
  got = kept_name _ _ g h.got;
  size = kept_name _ _ g h.size;
  held = kept_name _ _ g h.held;
  count = kept_name _ _ g h.count;
}

pub kept_exprs : {a b : Nodes} (k : EntryExprs) → Grows a b → HasEntryExprs a k → HasEntryExprs b k
kept_exprs k g h = record {
  life = kept_expr _ _ g h.life;
  active = kept_expr _ _ g h.active;
  two = kept_expr _ _ g h.two;
  null = kept_expr _ _ g h.null;
  raw = kept_expr _ _ g h.raw;
  disabled = kept_expr _ _ g h.disabled;
  suspended = kept_expr _ _ g h.suspended;
}

pub kept_refusals : {a b : Nodes} (k : Refusals) (kind : AnswerKind) → Grows a b → HasRefusals a k kind → HasRefusals b k kind
kept_refusals k kind g h = record {
  bad_receiver = code_kept _ _ g h.bad_receiver;
  bad_argument = code_kept _ _ g h.bad_argument;
  not_initialized = code_kept _ _ g h.not_initialized;
  interleaved = code_kept _ _ g h.interleaved;
  was_disabled = code_kept _ _ g h.was_disabled;
}

pub kept_all_refusals : {a b : Nodes} (k : AllRefusals) → Grows a b → HasAllRefusals a k → HasAllRefusals b k
kept_all_refusals k g h = record {
  status = kept_refusals k.status _ g h.status;
  value = kept_refusals k.value _ g h.value;
  nothing = kept_refusals k.nothing _ g h.nothing;
}

pub kept_parts : {a b : Nodes} (k : EntryParts) (kind : AnswerKind) → Grows a b → HasEntryParts a k kind → HasEntryParts b k kind
kept_parts k kind g h = record {
  exprs = kept_exprs k.exprs g h.exprs;
  failed = code_kept _ _ g h.failed;
  refusals = kept_refusals k.refusals kind g h.refusals;
}

pub kept_shared : {a b : Nodes} (k : Shared) → Grows a b → HasShared a k → HasShared b k
kept_shared k g h = record {
  names = kept_names k.names g h.names;
  exprs = kept_exprs k.exprs g h.exprs;
  failed = code_kept _ _ g h.failed;
  refusals = kept_all_refusals k.refusals g h.refusals;
}

-- What is made of them can be assigned to.
pub member_target : (nodes : Nodes) (e : CExprId) (name : List ℕ) → HasExpr nodes e.0 (of_self name) → HasTarget nodes (length nodes.exprs) e
member_target nodes e name h = (h.there, rw h.is refl)

pub assign_as : {t u v w : ExprTree} {r s : Code} → t ≡ u → v ≡ w → r ≡ s → assign t v r ≡ assign u w s
assign_as {u = u} {v = v} {w = w} {r = r} e f g = ap (λ x. assign x v r) e ∙ ap (λ x. assign u x r) f ∙ ap (assign u w) g

pub two_as : (op : COp) {a b x y : ExprTree} → a ≡ b → x ≡ y → two op a x ≡ two op b y
two_as op {b = b} {x = x} e f = ap (λ t. two op t x) e ∙ ap (two op b) f
