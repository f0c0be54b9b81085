-- A package that breaks no rule of names has orders of its methods and of its structs, and all holds of it that a resolved package keeps.
use Rattle.std.proofs.Common.{◌≡◌, ℕ, true, List, None, length, sym, subst}
use Rattle.wf_text.specs.Precedence.{Decides}
use Rattle.wf_ast.specs.ParsedParts.{Parsed}
use Rattle.wf_ast.specs.ParsedTree.{DeclTree}
use Rattle.wf_ast.specs.ParsedTrees.{decl_trees}
use Rattle.wf_ast.specs.ReadPackage.{IsRead, decls_of}
use Rattle.wf_named.specs.NamedInvariant.{IsNamed}
use Rattle.wf_named.specs.NamedParts.{NamedParts, named_package}
use Rattle.wf_named.specs.NamedTree.{NamedPackageTree}
use Rattle.wf_named.specs.WellNamed.{well_named}
use Rattle.wf_named.specs.Grammar.{package_by_grammar}
use Rattle.wf_named.specs.NamedStatementPlaces.{named_bodies_rise}
use Rattle.wf_names_rules.specs.Declarations.{Declared, declared, declared_in}
use Rattle.wf_names_rules.specs.NameRules.{Breaks, by_use, by_cycle}
use Rattle.wf_names_scopes.specs.CallRows.{AreRows}
use Rattle.wf_names_cycles.specs.CyclesFound.{IsCallOrder, IsStructOrder}
use Rattle.wf_names_resolve.specs.Package.{resolved_package}
use Rattle.graphs.specs.Orders.{IsOrder, HasCycle}
use Rattle.graphs.proofs.OrderLemmas.{order-open}
use Rattle.wf_names_laws.proofs.FrontLemmas.{calls-open, cycle-breaks, order-front, order-long}
use Rattle.wf_names_laws.proofs.StructOrders.{no-struct-cycle, struct-order-stands}
use Rattle.wf_names_laws.specs.Ordered.{HasOrder}
use Rattle.wf_names_laws.proofs.PackageLaws.{package-named}
use Rattle.wf_names_laws.proofs.PackageKept.{resolving_keeps_form}
use Rattle.wf_names_laws.proofs.ResolvedOrder.{resolving_keeps_order}
use Rattle.wf_names.specs.Naming.{IsResolved}

-- The graph of its calls has no cycle.
pub no-cycle : (d : Declared) (rows : List (List ℕ)) → Decides (Breaks d) None → AreRows d rows (length d.methods) → HasCycle rows → ⊥
no-cycle d rows kept made cycle = let broken = cycle-breaks d rows made cycle in kept broken.0 (by_cycle broken.0 broken.1)

-- So an order of the calls is one of the resolved package; and so is an order of the structs.
pub order-kept : (name : List ℕ) (texts : List (List ℕ)) (decls : List DeclTree) (order struct_order : List ℕ) → Decides (Breaks (declared texts decls)) None
    → IsCallOrder (declared texts decls) order → IsStructOrder (declared texts decls) struct_order → HasOrder (resolved_package name texts decls order struct_order)
order-kept name texts decls order struct_order kept calls structs =
    let d = declared texts decls in
    let ordered : IsOrder calls.rows order = order-open calls.rows order calls.order_of (no-cycle d calls.rows kept calls.made) in
    let held = structs.made in
    let acyclic : HasCycle structs.rows → ⊥ = no-struct-cycle name texts decls order struct_order kept structs.rows held.len held.same in
    record {
      long = order-long texts decls name order struct_order calls.rows calls.made ordered;
      in_front = order-front texts decls name order struct_order calls.rows calls.made ordered (calls-open d (λ s broken. kept s (by_use s broken)));
      structs = struct-order-stands name texts decls order struct_order kept structs.rows held.len held.same (order-open structs.rows struct_order structs.order_of acyclic);
    }

-- The resolved tree of such a package, with such orders, is what its names stand for. It is well named, as the grammar
-- gives, and has its statements in order.
pub tree-resolved : (p : Parsed) (nodes : NamedParts) (order struct_order : List ℕ) → Decides (Breaks (declared_in p)) None → IsCallOrder (declared_in p) order → IsStructOrder (declared_in p) struct_order
    → named_package nodes ≡ resolved_package p.name p.texts (decl_trees p.exprs p.stmts p.decls) order struct_order → IsResolved p nodes
tree-resolved p nodes order struct_order kept calls structs made =
    let ordered = order-kept p.name p.texts (decl_trees p.exprs p.stmts p.decls) order struct_order kept calls structs in
    record { kept = kept; order = order; struct_order = struct_order; tree = made; ordered = subst HasOrder (sym made) ordered }

pub resolved-named : (p : Parsed) (nodes : NamedParts) → IsRead p → IsResolved p nodes → IsNamed nodes
resolved-named p nodes read resolved =
    let ds = decls_of p in
    let W : NamedPackageTree → Type 0 = λ t. well_named t ≡ true in
    let G : NamedPackageTree → Type 0 = λ t. package_by_grammar t ≡ true in
    let O : NamedPackageTree → Type 0 = λ t. named_bodies_rise t ≡ true in
    record {
      names = subst W (sym resolved.tree) (package-named p.name p.texts ds resolved.order resolved.struct_order resolved.kept (subst HasOrder resolved.tree resolved.ordered));
      grammar = subst G (sym resolved.tree) (resolving_keeps_form (declared p.texts ds) p.name ds resolved.order resolved.struct_order read.formed);
      rises = subst O (sym resolved.tree) (resolving_keeps_order p.name p.texts ds resolved.order resolved.struct_order read.rises);
    }
