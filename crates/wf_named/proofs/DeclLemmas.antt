-- What a declaration adds to the tree of a package.
use Rattle.std.proofs.Common.{if◌then◌else◌, true, false, ◌≡◌, ℕ, Bool, List, [], ◌∷◌, ◌++◌, length, map, refl, sym, ◌∙◌, ap, subst}
use Rattle.wf_ast.specs.declared.parsed.Name.{Name}
use Rattle.wf_ast.proofs.TreeLemmas.{all_push}
use Rattle.wf_named.specs.declared.declarations.NamedConst.{NamedConst}
use Rattle.wf_named.specs.declared.declarations.NamedMethod.{NamedMethod}
use Rattle.wf_named.specs.declared.declarations.NamedStruct.{NamedStruct}
use Rattle.wf_named.specs.NamedTree.{NamedPackageTree}
use Rattle.wf_named.specs.NamedTrees.{word_at, const_made, struct_made, method_made}
use Rattle.wf_named.specs.NamedParts.{NamedParts, IsShaped, exprs_of, stmts_of, named_package, NamedConstBelow}

map_push : {X Y : Type 0} (f : X → Y) (xs : List X) (x : X) → map f (xs ++ x ∷ []) ≡ map f xs ++ f x ∷ []
map_push f [] x = refl
map_push f (y ∷ ys) x = ap (λ zs. f y ∷ zs) (map_push f ys x)

pub IsShaped-const : (p : NamedParts) (c : NamedConst) (added : Bool) (new : List NamedConst) → IsShaped p → NamedConstBelow (length p.texts) (length p.exprs) c
    → new ≡ (if added then p.consts ++ c ∷ [] else p.consts) → IsShaped (record p { consts = new })
IsShaped-const p c false new s h e = let P : List NamedConst → Type 0 = λ cs. IsShaped (record p { consts = cs }) in subst P (sym e) s
IsShaped-const p c true new s h e =
    let shaped : IsShaped (record p { consts = p.consts ++ c ∷ [] }) = record {
      texts = s.texts;
      exprs = s.exprs;
      stmts = s.stmts;
      consts = all_push (NamedConstBelow (length p.texts) (length p.exprs)) p.consts c s.consts h;
      statuses = s.statuses;
      structs = s.structs;
      methods = s.methods;
    } in
    let P : List NamedConst → Type 0 = λ cs. IsShaped (record p { consts = cs }) in subst P (sym e) shaped

pub package_const : (p : NamedParts) (c : NamedConst) (new : List NamedConst) → new ≡ p.consts ++ c ∷ []
    → named_package (record p { consts = new }) ≡ record (named_package p) { consts = (named_package p).consts ++ const_made p.texts (exprs_of p) c ∷ [] }
unfolding named_package
package_const p c new e =
    let P : NamedPackageTree = named_package p in
    ap (λ cs. record P { consts = map (const_made p.texts (exprs_of p)) cs }) e
    ∙ ap (λ cs. record P { consts = cs }) (map_push (const_made p.texts (exprs_of p)) p.consts c)

pub package_status : (p : NamedParts) (n : Name) (new : List Name) → new ≡ p.statuses ++ n ∷ []
    → named_package (record p { statuses = new }) ≡ record (named_package p) { statuses = (named_package p).statuses ++ word_at p.texts n ∷ [] }
unfolding named_package
package_status p n new e =
    let P : NamedPackageTree = named_package p in
    ap (λ ns. record P { statuses = map (word_at p.texts) ns }) e ∙ ap (λ ns. record P { statuses = ns }) (map_push (word_at p.texts) p.statuses n)

pub package_struct : (p : NamedParts) (s : NamedStruct) (new : List NamedStruct) → new ≡ p.structs ++ s ∷ []
    → named_package (record p { structs = new }) ≡ record (named_package p) { structs = (named_package p).structs ++ struct_made p.texts (exprs_of p) s ∷ [] }
unfolding named_package
package_struct p s new e =
    let P : NamedPackageTree = named_package p in
    ap (λ ss. record P { structs = map (struct_made p.texts (exprs_of p)) ss }) e
    ∙ ap (λ ss. record P { structs = ss }) (map_push (struct_made p.texts (exprs_of p)) p.structs s)

pub package_method : (p : NamedParts) (m : NamedMethod) (new : List NamedMethod) → new ≡ p.methods ++ m ∷ []
    → named_package (record p { methods = new }) ≡ record (named_package p) { methods = (named_package p).methods ++ method_made p.texts (exprs_of p) (stmts_of p) m ∷ [] }
unfolding named_package
package_method p m new e =
    let P : NamedPackageTree = named_package p in
    ap (λ ms. record P { methods = map (method_made p.texts (exprs_of p) (stmts_of p)) ms }) e
    ∙ ap (λ ms. record P { methods = ms }) (map_push (method_made p.texts (exprs_of p) (stmts_of p)) p.methods m)

pub package_order : (p : NamedParts) (new : List ℕ) → named_package (record p { order = new }) ≡ record (named_package p) { order = new }
unfolding named_package
package_order p new = refl

pub package_struct_order : (p : NamedParts) (new : List ℕ) → named_package (record p { struct_order = new }) ≡ record (named_package p) { struct_order = new }
unfolding named_package
package_struct_order p new = refl
