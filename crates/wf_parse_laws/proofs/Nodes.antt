-- Every list of declarations is that of some nodes: each tree has nodes of its own, after those of its parts.
use Rattle.std.proofs.Common.{◌≡◌, ℕ, Option, None, Some, List, [], ◌∷◌, ◌++◌, length, refl, sym, ◌∙◌, ap, append_assoc, append-nil}
use Rattle.std.specs.List.{slice_get}
use Rattle.wf_text.specs.declared.place.Place.{Place}
use Rattle.wf_ast.specs.declared.numbers.ExprId.{ExprId}
use Rattle.wf_ast.specs.declared.numbers.StmtId.{StmtId}
use Rattle.wf_ast.specs.declared.parsed.Arm.{Arm}
use Rattle.wf_ast.specs.declared.parsed.Block.{Block}
use Rattle.wf_ast.specs.declared.parsed.Bounds.{Bounds}
use Rattle.wf_ast.specs.declared.parsed.Call.{Call}
use Rattle.wf_ast.specs.declared.parsed.Core.TheVariants as cores
use Rattle.wf_ast.specs.declared.parsed.DeclNode.{DeclNode}
use Rattle.wf_ast.specs.declared.parsed.Decl.TheVariants as decls
use Rattle.wf_ast.specs.declared.parsed.ExprNode.{ExprNode}
use Rattle.wf_ast.specs.declared.parsed.Expr.{Expr}
use Rattle.wf_ast.specs.declared.parsed.Expr.TheVariants as exprs
use Rattle.wf_ast.specs.declared.parsed.Field.{Field}
use Rattle.wf_ast.specs.declared.parsed.Given.{Given}
use Rattle.wf_ast.specs.declared.parsed.Link.{Link}
use Rattle.wf_ast.specs.declared.parsed.LoopClause.{LoopClause}
use Rattle.wf_ast.specs.declared.parsed.Prefix.TheVariants as prefixes
use Rattle.wf_ast.specs.declared.parsed.Stmt.{Stmt}
use Rattle.wf_ast.specs.declared.parsed.Stmt.TheVariants as stmts
use Rattle.wf_ast.specs.declared.parsed.StmtNode.{StmtNode}
use Rattle.wf_ast.specs.declared.parsed.Target.{Target}
use Rattle.wf_ast.specs.declared.parsed.Target.TheVariants as targets
use Rattle.wf_ast.specs.declared.parsed.TypeExpr.{TypeExpr}
use Rattle.wf_ast.specs.declared.parsed.Via.{Via}
use Rattle.wf_ast.specs.ParsedParts.{Parsed}
use Rattle.wf_ast.specs.ParsedTree as tree
use Rattle.wf_ast.specs.ParsedTree.{ExprTree, PartTree, LinkTrees, GivenTrees, CallTree, TypeTree, BoundsTree, TargetTree, ClauseTrees, ViaTree, StmtTree, BlockTree, ArmTrees, FieldTrees, ResultTree, DeclTree}
use Rattle.wf_ast.specs.ParsedTrees.{no_place, expr_or, stmt_or, expr_at, part_at, links_at, given_at, call_at, bounds_at, type_at, expr_made, exprs_after, expr_trees, target_at, clauses_at, via_at, stmt_at, block_at, else_at, arms_at, stmt_made, stmts_after, stmt_trees, fields_at, result_at, decl_made, decls_made, decl_trees}
use Rattle.wf_ast.proofs.TreeLemmas.{slice_get-seam}

-- How what stands in nodes is read, by the trees of the expressions and the statements.
abbrev Reader : Type 0 → Type 0 → Type 0
Reader Y X = List ExprTree → List StmtTree → Y → X

-- After these trees there are nodes and a part of theirs that stands for this, whatever nodes come after them.
record Stands {X Y : Type 0} (at : Reader Y X) (es : List ExprTree) (ts : List StmtTree) (x : X) : Type 0 where
  exprs : List ExprNode
  new : List ExprTree
  grows : exprs_after es exprs ≡ es ++ new
  stmts : List StmtNode
  added : List StmtTree
  makes : (more : List ExprTree) → stmts_after ((es ++ new) ++ more) ts stmts ≡ ts ++ added
  part : Y
  is : (more : List ExprTree) (later : List StmtTree) → at ((es ++ new) ++ more) ((ts ++ added) ++ later) part ≡ x

exprs_after-both : (es : List ExprTree) (ns ms : List ExprNode) → exprs_after es (ns ++ ms) ≡ exprs_after (exprs_after es ns) ms
exprs_after-both es [] ms = refl
exprs_after-both es (n ∷ ns) ms = exprs_after-both (es ++ expr_made es n.expr n.at ∷ []) ns ms

stmts_after-both : (es : List ExprTree) (ts : List StmtTree) (ns ms : List StmtNode) → stmts_after es ts (ns ++ ms) ≡ stmts_after es (stmts_after es ts ns) ms
stmts_after-both es ts [] ms = refl
stmts_after-both es ts (n ∷ ns) ms = stmts_after-both es (ts ++ stmt_made es ts n.stmt n.at ∷ []) ns ms

-- What names no node.
still : {X Y : Type 0} (at : Reader Y X) (es : List ExprTree) (ts : List StmtTree) (x : X) (y : Y) → ((us : List ExprTree) (vs : List StmtTree) → at us vs y ≡ x) → Stands at es ts x
still at es ts x y h = record {
  exprs = [];
  new = [];
  grows = sym (append-nil es);
  stmts = [];
  added = [];
  makes = λ more. sym (append-nil ts);
  part = y;
  is = λ more later. h ((es ++ []) ++ more) ((ts ++ []) ++ later);
}

-- What is made of one part.
stands-one : {X Y Z V : Type 0} (at : Reader Y X) (bt : Reader V Z) (f : X → Z) (g : Y → V) (es : List ExprTree) (ts : List StmtTree) (x : X)
    → ((us : List ExprTree) (vs : List StmtTree) (y : Y) → bt us vs (g y) ≡ f (at us vs y)) → Stands at es ts x → Stands bt es ts (f x)
stands-one at bt f g es ts x same a = record {
  exprs = a.exprs;
  new = a.new;
  grows = a.grows;
  stmts = a.stmts;
  added = a.added;
  makes = a.makes;
  part = g a.part;
  is = λ more later. same ((es ++ a.new) ++ more) ((ts ++ a.added) ++ later) a.part ∙ ap f (a.is more later);
}

-- What is made of two.
stands-two : {X Y Z V W U : Type 0} (at : Reader Y X) (bt : Reader V Z) (ct : Reader U W) (f : X → Z → W) (g : Y → V → U) (es : List ExprTree) (ts : List StmtTree) (x : X) (z : Z)
    → ((us : List ExprTree) (vs : List StmtTree) (y : Y) (v : V) → ct us vs (g y v) ≡ f (at us vs y) (bt us vs v))
    → Stands at es ts x → ((us : List ExprTree) (vs : List StmtTree) → Stands bt us vs z) → Stands ct es ts (f x z)
stands-two at bt ct f g es ts x z same a later = joined (later (es ++ a.new) (ts ++ a.added))
  where
    joined : Stands bt (es ++ a.new) (ts ++ a.added) z → Stands ct es ts (f x z)
    joined b = record {
      exprs = a.exprs ++ b.exprs;
      new = a.new ++ b.new;
      grows = exprs_after-both es a.exprs b.exprs ∙ ap (λ us. exprs_after us b.exprs) a.grows ∙ b.grows ∙ append_assoc es a.new b.new;
      stmts = a.stmts ++ b.stmts;
      added = a.added ++ b.added;
      makes = λ more.
          let all = (es ++ (a.new ++ b.new)) ++ more in
          let seen : all ≡ ((es ++ a.new) ++ b.new) ++ more = ap (λ us. us ++ more) (sym (append_assoc es a.new b.new)) in
          let front : all ≡ (es ++ a.new) ++ (b.new ++ more) = seen ∙ append_assoc (es ++ a.new) b.new more in
          stmts_after-both all ts a.stmts b.stmts ∙ ap (λ us. stmts_after all (stmts_after us ts a.stmts) b.stmts) front ∙ ap (λ vs. stmts_after all vs b.stmts) (a.makes (b.new ++ more))
          ∙ ap (λ us. stmts_after us (ts ++ a.added) b.stmts) seen ∙ b.makes more ∙ append_assoc ts a.added b.added;
      part = g a.part b.part;
      is = λ more after.
          let all = (es ++ (a.new ++ b.new)) ++ more in
          let done = (ts ++ (a.added ++ b.added)) ++ after in
          let seen : all ≡ ((es ++ a.new) ++ b.new) ++ more = ap (λ us. us ++ more) (sym (append_assoc es a.new b.new)) in
          let front : all ≡ (es ++ a.new) ++ (b.new ++ more) = seen ∙ append_assoc (es ++ a.new) b.new more in
          let made : done ≡ ((ts ++ a.added) ++ b.added) ++ after = ap (λ vs. vs ++ after) (sym (append_assoc ts a.added b.added)) in
          let first : done ≡ (ts ++ a.added) ++ (b.added ++ after) = made ∙ append_assoc (ts ++ a.added) b.added after in
          let one : at all done a.part ≡ x = ap (λ us. at us done a.part) front ∙ ap (λ vs. at ((es ++ a.new) ++ (b.new ++ more)) vs a.part) first ∙ a.is (b.new ++ more) (b.added ++ after) in
          let two : bt all done b.part ≡ z = ap (λ us. bt us done b.part) seen ∙ ap (λ vs. bt (((es ++ a.new) ++ b.new) ++ more) vs b.part) made ∙ b.is more after in
          same all done a.part b.part ∙ ap (λ w. f w (bt all done b.part)) one ∙ ap (f x) two;
    }

-- Readers of parts.
abbrev at_expr : Reader ExprId ExprTree
at_expr us vs = expr_at us

abbrev at_stmt : Reader StmtId StmtTree
at_stmt us vs = stmt_at vs

-- An expression that a node makes stands under the node's number.
stands-expr : (place : Place) (es : List ExprTree) (ts : List StmtTree) (x : ExprTree) → Stands (λ us vs e. expr_made us e place) es ts x → Stands at_expr es ts x
stands-expr place es ts x a =
    let n : ExprNode = record { expr = a.part; at = place } in
    let made : expr_made (es ++ a.new) a.part place ≡ x = ap (λ us. expr_made us a.part place) (sym (append-nil (es ++ a.new))) ∙ a.is [] [] in
    record {
      exprs = a.exprs ++ n ∷ [];
      new = a.new ++ x ∷ [];
      grows = exprs_after-both es a.exprs (n ∷ []) ∙ ap (λ us. exprs_after us (n ∷ [])) a.grows ∙ ap (λ e. (es ++ a.new) ++ e ∷ []) made ∙ append_assoc es a.new (x ∷ []);
      stmts = a.stmts;
      added = a.added;
      makes = λ more. ap (λ us. stmts_after us ts a.stmts) (seen more) ∙ a.makes (x ∷ more);
      part = record { 0 = length (es ++ a.new) };
      is = λ more later. ap (λ us. expr_or (slice_get us (length (es ++ a.new)))) (seen more) ∙ ap expr_or (slice_get-seam (es ++ a.new) x more);
    }
  where
    seen : (more : List ExprTree) → (es ++ (a.new ++ x ∷ [])) ++ more ≡ (es ++ a.new) ++ x ∷ more
    seen more = ap (λ us. us ++ more) (sym (append_assoc es a.new (x ∷ []))) ∙ append_assoc (es ++ a.new) (x ∷ []) more

-- The same of a statement.
stands-stmt : (place : Place) (es : List ExprTree) (ts : List StmtTree) (x : StmtTree) → Stands (λ us vs s. stmt_made us vs s place) es ts x → Stands at_stmt es ts x
stands-stmt place es ts x a =
    let n : StmtNode = record { stmt = a.part; at = place } in
    record {
      exprs = a.exprs;
      new = a.new;
      grows = a.grows;
      stmts = a.stmts ++ n ∷ [];
      added = a.added ++ x ∷ [];
      makes = λ more.
          let all = (es ++ a.new) ++ more in
          let made : stmt_made all (ts ++ a.added) a.part place ≡ x = ap (λ vs. stmt_made all vs a.part place) (sym (append-nil (ts ++ a.added))) ∙ a.is more [] in
          stmts_after-both all ts a.stmts (n ∷ []) ∙ ap (λ vs. stmts_after all vs (n ∷ [])) (a.makes more) ∙ ap (λ s. (ts ++ a.added) ++ s ∷ []) made ∙ append_assoc ts a.added (x ∷ []);
      part = record { 0 = length (ts ++ a.added) };
      is = λ more later. ap (λ vs. stmt_or (slice_get vs (length (ts ++ a.added)))) (seen later) ∙ ap stmt_or (slice_get-seam (ts ++ a.added) x later);
    }
  where
    seen : (later : List StmtTree) → (ts ++ (a.added ++ x ∷ [])) ++ later ≡ (ts ++ a.added) ++ x ∷ later
    seen later = ap (λ vs. vs ++ later) (sym (append_assoc ts a.added (x ∷ []))) ∙ append_assoc (ts ++ a.added) (x ∷ []) later

abbrev at_part : Reader (Option ExprId) PartTree
at_part us vs = part_at us

abbrev at_links : Reader (List Link) LinkTrees
at_links us vs = links_at us

abbrev at_given : Reader (List Given) GivenTrees
at_given us vs = given_at us

abbrev at_call : Reader Call CallTree
at_call us vs = call_at us

abbrev at_type : Reader TypeExpr TypeTree
at_type us vs = type_at us

abbrev at_bounds : Reader (Option Bounds) BoundsTree
at_bounds us vs = bounds_at us

abbrev at_node : Place → Reader Expr ExprTree
at_node place us vs e = expr_made us e place

mutual
  expr-stands : (e : ExprTree) (es : List ExprTree) (ts : List StmtTree) → Stands at_expr es ts e
  expr-stands (tree.number value at) es ts = stands-expr at es ts (tree.number value at) (still (at_node at) es ts (tree.number value at) (exprs.Number value) (λ us vs. refl))
  expr-stands (tree.own_status text) es ts = stands-expr text.at es ts (tree.own_status text) (still (at_node text.at) es ts (tree.own_status text) (exprs.OwnStatus text) (λ us vs. refl))
  expr-stands (tree.base_status text at) es ts = stands-expr at es ts (tree.base_status text at) (still (at_node at) es ts (tree.base_status text at) (exprs.BaseStatus text) (λ us vs. refl))
  expr-stands (tree.fine at) es ts = stands-expr at es ts (tree.fine at) (still (at_node at) es ts (tree.fine at) exprs.Fine (λ us vs. refl))
  expr-stands (tree.truth value at) es ts = stands-expr at es ts (tree.truth value at) (still (at_node at) es ts (tree.truth value at) (exprs.Truth value) (λ us vs. refl))
  expr-stands (tree.path path) es ts = stands-expr path.at es ts (tree.path path) (still (at_node path.at) es ts (tree.path path) (exprs.Path path) (λ us vs. refl))
  expr-stands (tree.index base place at) es ts =
      stands-expr at es ts (tree.index base place at) (stands-one at_expr (at_node at) (λ x. tree.index base x at) (λ y. exprs.Index base y) es ts place (λ us vs y. refl) (expr-stands place es ts))
  expr-stands (tree.slice base from to at) es ts =
      stands-expr at es ts (tree.slice base from to at)
      (stands-two at_part at_part (at_node at) (λ x z. tree.slice base x z at) (λ y v. exprs.Slice base y v) es ts from to (λ us vs y v. refl) (part-stands from es ts) (λ us vs. part-stands to us vs))
  expr-stands (tree.answer c) es ts =
      stands-expr no_place es ts (tree.answer c) (stands-one at_call (at_node no_place) (λ x. tree.answer x) (λ y. exprs.Call y) es ts c (λ us vs y. refl) (call-stands c es ts))
  expr-stands (tree.chain op first links at) es ts =
      stands-expr at es ts (tree.chain op first links at)
      (stands-two at_expr at_links (at_node at) (λ x z. tree.chain op x z at) (λ y v. exprs.Chain op y v) es ts first links (λ us vs y v. refl) (expr-stands first es ts) (λ us vs. links-stand links us vs))
  expr-stands (tree.convert of to at) es ts =
      stands-expr at es ts (tree.convert of to at)
      (stands-two at_expr at_type (at_node at) (λ x z. tree.convert x z at) (λ y v. exprs.Convert y v) es ts of to (λ us vs y v. refl) (expr-stands of es ts) (λ us vs. type-stands to us vs))
  expr-stands (tree.negation of at) es ts =
      stands-expr at es ts (tree.negation of at) (stands-one at_expr (at_node at) (λ x. tree.negation x at) (λ y. exprs.Not y) es ts of (λ us vs y. refl) (expr-stands of es ts))

  part-stands : (p : PartTree) (es : List ExprTree) (ts : List StmtTree) → Stands at_part es ts p
  part-stands tree.absent es ts = still at_part es ts tree.absent None (λ us vs. refl)
  part-stands (tree.present part) es ts = stands-one at_expr at_part (λ x. tree.present x) (λ y. Some y) es ts part (λ us vs y. refl) (expr-stands part es ts)

  links-stand : (ls : LinkTrees) (es : List ExprTree) (ts : List StmtTree) → Stands at_links es ts ls
  links-stand tree.no_link es ts = still at_links es ts tree.no_link [] (λ us vs. refl)
  links-stand (tree.link sign operand others) es ts =
      stands-two at_expr at_links at_links (λ x z. tree.link sign x z) (λ y v. record { sign = sign; operand = y } ∷ v) es ts operand others (λ us vs y v. refl) (expr-stands operand es ts) (λ us vs. links-stand others us vs)

  given-stands : (gs : GivenTrees) (es : List ExprTree) (ts : List StmtTree) → Stands at_given es ts gs
  given-stands tree.no_given es ts = still at_given es ts tree.no_given [] (λ us vs. refl)
  given-stands (tree.more_given name value others) es ts =
      stands-two at_expr at_given at_given (λ x z. tree.more_given name x z) (λ y v. record { name = name; value = y } ∷ v) es ts value others (λ us vs y v. refl) (expr-stands value es ts) (λ us vs. given-stands others us vs)

  call-stands : (c : CallTree) (es : List ExprTree) (ts : List StmtTree) → Stands at_call es ts c
  call-stands (tree.call on method mark args) es ts =
      stands-one at_given at_call (λ x. tree.call on method mark x) (λ y. record { on = on; method = method; mark = mark; args = y }) es ts args (λ us vs y. refl) (given-stands args es ts)

  type-stands : (t : TypeTree) (es : List ExprTree) (ts : List StmtTree) → Stands at_type es ts t
  type-stands (tree.slice_of at element) es ts =
      stands-one at_type at_type (λ x. tree.slice_of at x) (λ y. record { prefixes = prefixes.Slice at ∷ y.prefixes; core = y.core; bounds = y.bounds }) es ts element (λ us vs y. refl) (type-stands element es ts)
  type-stands (tree.array_of length at element) es ts =
      stands-two at_expr at_type at_type (λ x z. tree.array_of x at z) (λ y v. record { prefixes = prefixes.Array y at ∷ v.prefixes; core = v.core; bounds = v.bounds }) es ts length element (λ us vs y v. refl)
      (expr-stands length es ts) (λ us vs. type-stands element us vs)
  type-stands (tree.base_type name at bounds) es ts =
      stands-one at_bounds at_type (λ x. tree.base_type name at x) (λ y. record { prefixes = []; core = cores.Base name at; bounds = y }) es ts bounds (λ us vs y. refl) (bounds-stand bounds es ts)
  type-stands (tree.status_type at bounds) es ts =
      stands-one at_bounds at_type (λ x. tree.status_type at x) (λ y. record { prefixes = []; core = cores.BaseStatus at; bounds = y }) es ts bounds (λ us vs y. refl) (bounds-stand bounds es ts)
  type-stands (tree.struct_type name) es ts = still at_type es ts (tree.struct_type name) (record { prefixes = []; core = cores.Struct name; bounds = None }) (λ us vs. refl)

  bounds-stand : (b : BoundsTree) (es : List ExprTree) (ts : List StmtTree) → Stands at_bounds es ts b
  bounds-stand tree.unrefined es ts = still at_bounds es ts tree.unrefined None (λ us vs. refl)
  bounds-stand (tree.refined low high) es ts =
      stands-two at_part at_expr at_bounds (λ x z. tree.refined x z) (λ y v. Some (record { low = y; high = v })) es ts low high (λ us vs y v. refl) (part-stands low es ts) (λ us vs. expr-stands high us vs)

-- Statements.
abbrev at_target : Reader Target TargetTree
at_target us vs = target_at us

abbrev at_clauses : Reader (List LoopClause) ClauseTrees
at_clauses us vs = clauses_at us

abbrev at_via : Reader (Option Via) ViaTree
at_via us vs = via_at us

abbrev at_block : Reader Block BlockTree
at_block us vs = block_at vs

abbrev at_arms : Reader (List Arm × Option Block) ArmTrees
at_arms us vs p = arms_at us vs p.0 (else_at vs p.1)

abbrev at_step : Place → Reader Stmt StmtTree
at_step place us vs s = stmt_made us vs s place

-- Two readers side by side.
abbrev side : {X Y Z V : Type 0} → Reader Y X → Reader V Z → Reader (Y × V) (X × Z)
side at bt us vs p = (at us vs p.0, bt us vs p.1)

target-stands : (t : TargetTree) (es : List ExprTree) (ts : List StmtTree) → Stands at_target es ts t
target-stands (tree.to_path path) es ts = still at_target es ts (tree.to_path path) (targets.Path path) (λ us vs. refl)
target-stands (tree.to_element base place at) es ts =
    stands-one at_expr at_target (λ x. tree.to_element base x at) (λ y. targets.Element base y at) es ts place (λ us vs y. refl) (expr-stands place es ts)

clauses-stand : (cs : ClauseTrees) (es : List ExprTree) (ts : List StmtTree) → Stands at_clauses es ts cs
clauses-stand tree.no_clause es ts = still at_clauses es ts tree.no_clause [] (λ us vs. refl)
clauses-stand (tree.more_clauses kind condition at others) es ts =
    stands-two at_expr at_clauses at_clauses (λ x z. tree.more_clauses kind x at z) (λ y v. record { kind = kind; condition = y; at = at } ∷ v) es ts condition others (λ us vs y v. refl)
    (expr-stands condition es ts) (λ us vs. clauses-stand others us vs)

via-stands : (v : ViaTree) (es : List ExprTree) (ts : List StmtTree) → Stands at_via es ts v
via-stands tree.by_itself es ts = still at_via es ts tree.by_itself None (λ us vs. refl)
via-stands (tree.via axiom_name given) es ts =
    stands-one at_given at_via (λ x. tree.via axiom_name x) (λ y. Some (record { «axiom» = axiom_name; given = y })) es ts given (λ us vs y. refl) (given-stands given es ts)

mutual
  stmt-stands : (s : StmtTree) (es : List ExprTree) (ts : List StmtTree) → Stands at_stmt es ts s
  stmt-stands (tree.var name of at) es ts =
      stands-stmt at es ts (tree.var name of at) (stands-one at_type (at_step at) (λ x. tree.var name x at) (λ y. stmts.Var name y) es ts of (λ us vs y. refl) (type-stands of es ts))
  stmt-stands (tree.assign target op sign value at) es ts =
      stands-stmt at es ts (tree.assign target op sign value at)
      (stands-two at_target at_expr (at_step at) (λ x z. tree.assign x op sign z at) (λ y v. stmts.Assign y op sign v) es ts target value (λ us vs y v. refl) (target-stands target es ts) (λ us vs. expr-stands value us vs))
  stmt-stands (tree.keep target c at) es ts =
      stands-stmt at es ts (tree.keep target c at)
      (stands-two at_target at_call (at_step at) (λ x z. tree.keep x z at) (λ y v. stmts.Keep y v) es ts target c (λ us vs y v. refl) (target-stands target es ts) (λ us vs. call-stands c us vs))
  stmt-stands (tree.do_call c at) es ts =
      stands-stmt at es ts (tree.do_call c at) (stands-one at_call (at_step at) (λ x. tree.do_call x at) (λ y. stmts.Call y) es ts c (λ us vs y. refl) (call-stands c es ts))
  stmt-stands (tree.branch arms at) es ts =
      stands-stmt at es ts (tree.branch arms at) (stands-one at_arms (at_step at) (λ x. tree.branch x at) (λ y. stmts.If y.0 y.1) es ts arms (λ us vs y. refl) (arms-stand arms es ts))
  stmt-stands (tree.loop label condition clauses body at) es ts =
      stands-stmt at es ts (tree.loop label condition clauses body at)
      (stands-two at_expr (side at_clauses at_block) (at_step at) (λ x z. tree.loop label x z.0 z.1 at) (λ y v. stmts.While label y v.0 v.1) es ts condition (clauses, body) (λ us vs y v. refl)
      (expr-stands condition es ts)
      (λ us vs. stands-two at_clauses at_block (side at_clauses at_block) (λ x z. (x, z)) (λ y v. (y, v)) us vs clauses body (λ ws xs y v. refl) (clauses-stand clauses us vs) (λ ws xs. block-stands body ws xs)))
  stmt-stands (tree.leave label at) es ts = stands-stmt at es ts (tree.leave label at) (still (at_step at) es ts (tree.leave label at) (stmts.Break label) (λ us vs. refl))
  stmt-stands (tree.again label at) es ts = stands-stmt at es ts (tree.again label at) (still (at_step at) es ts (tree.again label at) (stmts.Continue label) (λ us vs. refl))
  stmt-stands (tree.back value at) es ts =
      stands-stmt at es ts (tree.back value at) (stands-one at_part (at_step at) (λ x. tree.back x at) (λ y. stmts.Return y) es ts value (λ us vs y. refl) (part-stands value es ts))
  stmt-stands (tree.suspend value at) es ts =
      stands-stmt at es ts (tree.suspend value at) (stands-one at_expr (at_step at) (λ x. tree.suspend x at) (λ y. stmts.Yield y) es ts value (λ us vs y. refl) (expr-stands value es ts))
  stmt-stands (tree.claim goal v at) es ts =
      stands-stmt at es ts (tree.claim goal v at)
      (stands-two at_expr at_via (at_step at) (λ x z. tree.claim x z at) (λ y v. stmts.Assert y v) es ts goal v (λ us vs y v. refl) (expr-stands goal es ts) (λ us vs. via-stands v us vs))

  block-stands : (b : BlockTree) (es : List ExprTree) (ts : List StmtTree) → Stands at_block es ts b
  block-stands (tree.close at) es ts = still at_block es ts (tree.close at) (record { items = []; close = at }) (λ us vs. refl)
  block-stands (tree.more_stmts first others) es ts =
      stands-two at_stmt at_block at_block (λ x z. tree.more_stmts x z) (λ y v. record { items = y ∷ v.items; close = v.close }) es ts first others (λ us vs y v. refl) (stmt-stands first es ts) (λ us vs. block-stands others us vs)

  arms-stand : (arms : ArmTrees) (es : List ExprTree) (ts : List StmtTree) → Stands at_arms es ts arms
  arms-stand tree.no_else es ts = still at_arms es ts tree.no_else ([], None) (λ us vs. refl)
  arms-stand (tree.otherwise body) es ts = stands-one at_block at_arms (λ x. tree.otherwise x) (λ y. ([], Some y)) es ts body (λ us vs y. refl) (block-stands body es ts)
  arms-stand (tree.arm condition body others) es ts =
      stands-two at_expr (side at_block at_arms) at_arms (λ x z. tree.arm x z.0 z.1) (λ y v. (record { condition = y; body = v.0 } ∷ v.1.0, v.1.1)) es ts condition (body, others) (λ us vs y v. refl)
      (expr-stands condition es ts)
      (λ us vs. stands-two at_block at_arms (side at_block at_arms) (λ x z. (x, z)) (λ y v. (y, v)) us vs body others (λ ws xs y v. refl) (block-stands body us vs) (λ ws xs. arms-stand others ws xs))

-- Declarations.
abbrev at_fields : Reader (List Field) FieldTrees
at_fields us vs = fields_at us

abbrev at_result : Reader (Option TypeExpr) ResultTree
at_result us vs = result_at us

abbrev at_decls : Reader (List DeclNode) (List DeclTree)
at_decls us vs = decls_made us vs

fields-stand : (fs : FieldTrees) (es : List ExprTree) (ts : List StmtTree) → Stands at_fields es ts fs
fields-stand tree.no_field es ts = still at_fields es ts tree.no_field [] (λ us vs. refl)
fields-stand (tree.more_fields name of others) es ts =
    stands-two at_type at_fields at_fields (λ x z. tree.more_fields name x z) (λ y v. record { name = name; of = y } ∷ v) es ts of others (λ us vs y v. refl) (type-stands of es ts) (λ us vs. fields-stand others us vs)

result-stands : (r : ResultTree) (es : List ExprTree) (ts : List StmtTree) → Stands at_result es ts r
result-stands tree.gives_nothing es ts = still at_result es ts tree.gives_nothing None (λ us vs. refl)
result-stands (tree.gives of) es ts = stands-one at_type at_result (λ x. tree.gives x) (λ y. Some y) es ts of (λ us vs y. refl) (type-stands of es ts)

-- A declaration, with whether it is public and its place.
abbrev at_item : Reader DeclNode DeclTree
at_item us vs n = decl_made us vs n.public n.decl n.at

decl-stands : (d : DeclTree) (es : List ExprTree) (ts : List StmtTree) → Stands at_item es ts d
decl-stands (tree.status public text at) es ts = still at_item es ts (tree.status public text at) (record { public = public; decl = decls.Status text; at = at }) (λ us vs. refl)
decl-stands (tree.constant public name of value at) es ts =
    stands-two at_type at_expr at_item (λ x z. tree.constant public name x z at) (λ y v. record { public = public; decl = decls.Const name y v; at = at }) es ts of value (λ us vs y v. refl)
    (type-stands of es ts) (λ us vs. expr-stands value us vs)
decl-stands (tree.structure public name mark fields at) es ts =
    stands-one at_fields at_item (λ x. tree.structure public name mark x at) (λ y. record { public = public; decl = decls.Struct name mark y; at = at }) es ts fields (λ us vs y. refl) (fields-stand fields es ts)
decl-stands (tree.method public owner name mark args result body at) es ts =
    stands-two at_fields (side at_result at_block) at_item (λ x z. tree.method public owner name mark x z.0 z.1 at) (λ y v. record { public = public; decl = decls.Method owner name mark y v.0 v.1; at = at }) es ts args (result, body) (λ us vs y v. refl)
    (fields-stand args es ts)
    (λ us vs. stands-two at_result at_block (side at_result at_block) (λ x z. (x, z)) (λ y v. (y, v)) us vs result body (λ ws xs y v. refl) (result-stands result us vs) (λ ws xs. block-stands body ws xs))

decls-stand : (ds : List DeclTree) (es : List ExprTree) (ts : List StmtTree) → Stands at_decls es ts ds
decls-stand [] es ts = still at_decls es ts [] [] (λ us vs. refl)
decls-stand (d ∷ ds) es ts =
    stands-two at_item at_decls at_decls (λ x z. x ∷ z) (λ y v. y ∷ v) es ts d ds (λ us vs y v. refl) (decl-stands d es ts) (λ us vs. decls-stand ds us vs)

-- A package of this name, with these texts and declarations.
pub package-of : (name : List ℕ) (texts : List (List ℕ)) (ds : List DeclTree) → (p : Parsed) × (p.name ≡ name) × (p.texts ≡ texts) × (decl_trees p.exprs p.stmts p.decls ≡ ds)
unfolding decl_trees stmt_trees expr_trees
package-of name texts ds = from (decls-stand ds [] [])
  where
    from : Stands at_decls [] [] ds → (p : Parsed) × (p.name ≡ name) × (p.texts ≡ texts) × (decl_trees p.exprs p.stmts p.decls ≡ ds)
    from s =
        let all : s.new ++ [] ≡ s.new = append-nil s.new in
        let made : s.added ++ [] ≡ s.added = append-nil s.added in
        let es : exprs_after [] s.exprs ≡ s.new ++ [] = s.grows ∙ sym all in
        let steps : stmts_after (exprs_after [] s.exprs) [] s.stmts ≡ s.added ++ [] = ap (λ us. stmts_after us [] s.stmts) es ∙ s.makes [] ∙ sym made in (
          record { name = name; texts = texts; exprs = s.exprs; stmts = s.stmts; decls = s.part },
          refl,
          refl,
          ap (λ vs. decls_made (exprs_after [] s.exprs) vs s.part) steps ∙ ap (λ us. decls_made us (s.added ++ []) s.part) es ∙ s.is [] [],
        )
