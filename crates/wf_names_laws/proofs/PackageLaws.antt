-- A package that breaks no rule of names is well named.
use Rattle.std.proofs.Common.{◌≡◌, ℕ, true, ◌&&◌, List, [], length, None, nat_eq}
use Rattle.std.specs.List.{list_all}
use Rattle.wf_text.specs.Precedence.{Decides}
use Rattle.wf_ast.specs.ParsedTree.{DeclTree}
use Rattle.wf_named.specs.NamedTree.{NamedPackageTree}
use Rattle.wf_named.specs.WellNamed.{named_consts, named_structs, named_method, all_whole, calls_in_front, has_struct_order, has_few_variables, well_named}
use Rattle.wf_names_rules.specs.Declarations.{declared}
use Rattle.wf_names_rules.specs.NameRules.{Breaks}
use Rattle.wf_names_uses.proofs.FoundLemmas.{both-so}
use Rattle.wf_names_resolve.specs.Package.{resolved_package}
use Rattle.wf_names_laws.specs.Ordered.{HasOrder}
use Rattle.wf_names_laws.proofs.DeclLaws.{consts-named, structs-named, methods-named}
use Rattle.wf_names_laws.proofs.FewLemmas.{methods-few}
use Rattle.wf_names_laws.proofs.WholeLaws.{structs-whole}

parts-named : (p : NamedPackageTree) → named_consts p 0 p.consts ≡ true → named_structs p 0 p.structs ≡ true → list_all (named_method p) p.methods ≡ true → all_whole p 0 p.structs ≡ true
    → HasOrder p → list_all has_few_variables p.methods ≡ true → well_named p ≡ true
unfolding well_named
parts-named p consts structs methods whole order few =
    let rest = has_struct_order p && list_all has_few_variables p.methods in
    let ordered = nat_eq (length p.order) (length p.methods) && (calls_in_front p [] p.order && rest) in
    both-so (named_consts p 0 p.consts) (named_structs p 0 p.structs && (list_all (named_method p) p.methods && (all_whole p 0 p.structs && ordered))) consts
    (both-so (named_structs p 0 p.structs) (list_all (named_method p) p.methods && (all_whole p 0 p.structs && ordered)) structs
    (both-so (list_all (named_method p) p.methods) (all_whole p 0 p.structs && ordered) methods
    (both-so (all_whole p 0 p.structs) ordered whole
    (both-so (nat_eq (length p.order) (length p.methods)) (calls_in_front p [] p.order && rest) order.long
    (both-so (calls_in_front p [] p.order) rest order.in_front
    (both-so (has_struct_order p) (list_all has_few_variables p.methods) order.structs few))))))

pub package-named : (name : List ℕ) (texts : List (List ℕ)) (decls : List DeclTree) (order struct_order : List ℕ) → Decides (Breaks (declared texts decls)) None
    → HasOrder (resolved_package name texts decls order struct_order) → well_named (resolved_package name texts decls order struct_order) ≡ true
package-named name texts decls order struct_order h ordered =
    parts-named (resolved_package name texts decls order struct_order) (consts-named name texts decls order struct_order h) (structs-named name texts decls order struct_order h) (methods-named name texts decls order struct_order h)
    (structs-whole name texts decls order struct_order h) ordered (methods-few texts decls h)
