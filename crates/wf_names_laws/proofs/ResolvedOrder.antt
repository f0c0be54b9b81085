-- The resolved body of a method has its statements where the parsed one has them; those that declare locals fall away.
use Rattle.std.proofs.Common.{◌≡◌, inl, true, Option, List, [], ◌∷◌, ◌++◌, refl}
use Rattle.std.specs.List.{list_all}
use Rattle.wf_text.specs.declared.place.Place.{Place}
use Rattle.wf_ast.specs.declared.parsed.Name.{Name}
use Rattle.wf_ast.specs.ParsedTree as parsed
use Rattle.wf_ast.specs.ParsedTree.{StmtTree, BlockTree, ArmTrees, DeclTree}
use Rattle.wf_ast.specs.StatementPlaces.{rise, stmt_places, block_places, arm_places, bodies_rise}
use Rattle.wf_ast.proofs.BoolLemmas.{both, and-true}
use Rattle.wf_ast.proofs.Rising.{StandAmong, over, joined, rises-among, rises-by-test, rise-passes}
use Rattle.wf_named.specs.NamedTree.{NamedBlockTree}
use Rattle.wf_named.specs.NamedStatementPlaces.{named_block_places, named_arm_places}
use Rattle.wf_names_rules.specs.Declarations.{Declared, declared, variables, locals_of, Method}
use Rattle.wf_names_rules.specs.Uses.{method_scope}
use Rattle.wf_names_resolve.specs.Standing.{Standing, standing_at}
use Rattle.wf_names_resolve.specs.Resolved.{with_stmt, resolved_stmt, resolved_block, resolved_arms}
use Rattle.wf_names_resolve.specs.Package.{resolved_methods}
use Rattle.wf_names_laws.specs.ResolvedForms.{ResolvingKeepsOrder}

-- Places that stand among places.
abbrev Among : List Place → List Place → Type 0
Among few many = StandAmong (λ (p : Place). p) (λ (p : Place). p) few many

two-among : (few others many more : List Place) → Among few many → Among others more → Among (few ++ others) (many ++ more)
two-among few others many more h k = joined (λ (p : Place). p) (λ (p : Place). p) few others many more h k

module _ (k : Standing) where
  mutual
    stmt-among : (loops : List (Option Name)) (st : StmtTree) (rest : NamedBlockTree) (ps : List Place) → Among (named_block_places rest) ps
        → Among (named_block_places (with_stmt (resolved_stmt k loops st) rest)) (stmt_places st ++ ps)
    stmt-among loops (parsed.var name of at) rest ps h = over (λ (p : Place). p) (λ (p : Place). p) (named_block_places rest) at ps h
    stmt-among loops (parsed.assign target op sign value at) rest ps h = inl (refl, h)
    stmt-among loops (parsed.keep target c at) rest ps h = inl (refl, h)
    stmt-among loops (parsed.do_call c at) rest ps h = inl (refl, h)
    stmt-among loops (parsed.branch arms at) rest ps h =
        inl (refl, two-among (named_arm_places (resolved_arms k loops arms)) (named_block_places rest) (arm_places arms) ps (arms-among loops arms) h)
    stmt-among loops (parsed.loop label condition clauses body at) rest ps h =
        let inside : List (Option Name) = loops ++ label ∷ [] in
        inl (refl, two-among (named_block_places (resolved_block k inside body)) (named_block_places rest) (block_places body) ps (block-among inside body) h)
    stmt-among loops (parsed.leave label at) rest ps h = inl (refl, h)
    stmt-among loops (parsed.again label at) rest ps h = inl (refl, h)
    stmt-among loops (parsed.back value at) rest ps h = inl (refl, h)
    stmt-among loops (parsed.suspend value at) rest ps h = inl (refl, h)
    stmt-among loops (parsed.claim goal by at) rest ps h = inl (refl, h)

    block-among : (loops : List (Option Name)) (body : BlockTree) → Among (named_block_places (resolved_block k loops body)) (block_places body)
    block-among loops (parsed.close at) = tt
    block-among loops (parsed.more_stmts first others) = stmt-among loops first (resolved_block k loops others) (block_places others) (block-among loops others)

    arms-among : (loops : List (Option Name)) (arms : ArmTrees) → Among (named_arm_places (resolved_arms k loops arms)) (arm_places arms)
    arms-among loops parsed.no_else = tt
    arms-among loops (parsed.otherwise body) = block-among loops body
    arms-among loops (parsed.arm condition body others) =
        two-among (named_block_places (resolved_block k loops body)) (named_arm_places (resolved_arms k loops others)) (block_places body) (arm_places others)
        (block-among loops body) (arms-among loops others)

  body-rises : (body : BlockTree) → rise (block_places body) ≡ true → rise (named_block_places (resolved_block k [] body)) ≡ true
  body-rises body h =
      let places = named_block_places (resolved_block k [] body) in
      rise-passes places (rises-among (λ (p : Place). p) (λ (p : Place). p) places (block_places body) (block-among [] body) (rises-by-test (block_places body) h))

methods-rise : (d : Declared) (decls : List DeclTree) → bodies_rise decls ≡ true → list_all (λ m. rise (named_block_places m.body)) (resolved_methods d decls) ≡ true
methods-rise d [] h = refl
methods-rise d (parsed.status public text at ∷ decls) h = methods-rise d decls h
methods-rise d (parsed.constant public name of value at ∷ decls) h = methods-rise d decls h
methods-rise d (parsed.structure public name mark fields at ∷ decls) h = methods-rise d decls h
methods-rise d (parsed.method public owner name mark args result body at ∷ decls) h =
    let parts = both (rise (block_places body)) (bodies_rise decls) h in
    let m : Method = record { public = public; owner = owner; name = name; args = variables args; result = result; locals = locals_of body; body = body } in
    let k : Standing = standing_at d (method_scope d m) in
    and-true (rise (named_block_places (resolved_block k [] body))) _ (body-rises k body parts.0) (methods-rise d decls parts.1)

pub resolving_keeps_order : ResolvingKeepsOrder
resolving_keeps_order name texts decls order struct_order h = methods-rise (declared texts decls) decls h
