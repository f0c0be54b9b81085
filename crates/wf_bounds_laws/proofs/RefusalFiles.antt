-- What the rules of facts and of points refuse of a package stands in one of its files.
use Rattle.std.proofs.Common.{◌≡◌, ◌<◌, ℕ, zero, suc, Bool, true, false, if◌then◌else◌, List, [], ◌∷◌, ◌++◌, length, slice_get, Some, sym, subst}
use Rattle.std.specs.List.{AllByRecursion}
use Rattle.wf_text.specs.declared.place.Place.{Place}
use Rattle.wf_text.specs.declared.rules.Refusal.{Refusal}
use Rattle.wf_ast.specs.TypedTree.{Site, Block, end, plain, choose, loop}
use Rattle.wf_ast.specs.TypedPackage.{MethodTree}
use Rattle.wf_ast.specs.ReadPackage.{decls_of}
use Rattle.wf_parse.proofs.DeclPlaces.{decls_have_files}
use Rattle.wf_meaning.specs.Remaining.{is_point, points_in}
use Rattle.wf_names_resolve.specs.Package.{resolved_package}
use Rattle.wf_typed_tree.specs.ElaboratedPackage.{typed_package}
use Rattle.wf_read_laws.proofs.FilePlaces.{decls-below}
use Rattle.wf_read_laws.proofs.PackageResolved.{package-in}
use Rattle.wf_bounds_laws.specs.BoundsRules.{name_of_local, bounds_refusal}
use Rattle.wf_bounds_laws.specs.BoundsLaws.{IsInFiles, BoundsHaveFiles, PointsHaveFiles, ReadBoundsHaveFiles, ReadPointsHaveFiles}
use Rattle.wf_bounds_laws.specs.TypedPlaces.{BlockIsIn}
use Rattle.wf_bounds_laws.proofs.ExprRefusals.{RefusalIsIn}
use Rattle.wf_bounds_laws.proofs.BodyRefusals.{methods-in}
use Rattle.wf_bounds_laws.proofs.StmtTyping.{typing_keeps_files}

pub bounds_have_files : BoundsHaveFiles
unfolding bounds_refusal
bounds_have_files count p h r is =
    subst (RefusalIsIn (IsInFiles count)) is
    (methods-in (IsInFiles count) (λ at n k. k) (name_of_local p) (typed_package p) 0 (typed_package p).methods (typing_keeps_files count p h))

-- Points.
module _ (In : Place → Type 0) where
  both-in : (one other : List Site) → AllByRecursion (λ (s : Site). In s.at) one → AllByRecursion (λ (s : Site). In s.at) other → AllByRecursion (λ (s : Site). In s.at) (one ++ other)
  both-in [] other h k = k
  both-in (s ∷ one) other h k = (h.0, both-in one other h.1 k)

  point-in : (b : Bool) (site : Site) (sites : List Site) → In site.at → AllByRecursion (λ (s : Site). In s.at) sites → AllByRecursion (λ (s : Site). In s.at) (if b then site ∷ sites else sites)
  point-in true site sites h k = (h, k)
  point-in false site sites h k = k

  points-in : (b : Block) → BlockIsIn In b → AllByRecursion (λ (s : Site). In s.at) (points_in b)
  points-in end h = tt
  points-in (plain site s rest) h = point-in (is_point s) site (points_in rest) h.0 (points-in rest h.2)
  points-in (choose site chained c a b rest) h =
      both-in (points_in a) (points_in b ++ points_in rest) (points-in a h.2) (both-in (points_in b) (points_in rest) (points-in b h.3) (points-in rest h.4))
  points-in (loop site head body rest) h = both-in (points_in body) (points_in rest) (points-in body h.2) (points-in rest h.3)

listed : {X : Type 0} (P : X → Type 0) (xs : List X) (n : ℕ) (x : X) → AllByRecursion P xs → slice_get xs n ≡ Some x → P x
listed P [] n x a is = absurd (cc is)
listed P (y ∷ xs) zero x a is = let same : y ≡ x = cc is in subst P same a.0
listed P (y ∷ xs) (suc n) x a is = listed P xs n x a.1 is

pub points_have_files : PointsHaveFiles
points_have_files count p h r b =
    let body : BlockIsIn (IsInFiles count) b.method.body = listed (λ (m : MethodTree). BlockIsIn (IsInFiles count) m.body) (typed_package p).methods b.number b.method (typing_keeps_files count p h) b.known in
    let at = listed (λ (s : Site). IsInFiles count s.at) (points_in b.method.body) b.place b.point (points-in (IsInFiles count) b.method.body body) b.stands in
    let F : Refusal → Type 0 = λ s. s.at.file < count in
    subst F (sym b.refused) at

pub read_bounds_have_files : ReadBoundsHaveFiles
read_bounds_have_files name files p read order struct_order r is =
    bounds_have_files (length files) (resolved_package p.name p.texts (decls_of p) order struct_order)
    (package-in (IsInFiles (length files)) p.name p.texts (decls_of p) order struct_order (decls-below (length files) (decls_of p) (decls_have_files name files p read))) r is

pub read_points_have_files : ReadPointsHaveFiles
read_points_have_files name files p read order struct_order r b =
    points_have_files (length files) (resolved_package p.name p.texts (decls_of p) order struct_order)
    (package-in (IsInFiles (length files)) p.name p.texts (decls_of p) order struct_order (decls-below (length files) (decls_of p) (decls_have_files name files p read))) r b
