use Rattle.std.proofs.Common.{◌∙◌, ap, refl, sym, map}
use Rattle.std.specs.List.{list_all}
use Rattle.wf_ast.specs.TypedPackage.{method_of, variable_of}
use Rattle.wf_points.specs.PointNumbers.{locals_kept, saved_locals}
use Rattle.c_text.specs.CSpelling.{is_word_byte}
use Rattle.wf_exprs.proofs.Growing.{grows_on, unchanged}
use Rattle.wf_exprs.specs.Scopes.{are_named}
use Rattle.wf_lower_stmts.specs.BodyNodes.{started_of}
use Rattle.wf_lower_stmts.proofs.WordLaws.{spelt_word, word_is, word_there}
use Rattle.wf_lower.proofs.FieldLaws.{coroutine_kept, coroutine_made}
use Rattle.wf_lower.proofs.Kept.{fields_after, fields_on, fields_then}
use Rattle.wf_lower.proofs.Known.{entry_is, entry_there, locals_named, made_there, method_spelt, text_is}
use Rattle.wf_lower.proofs.structs.add_coroutine.Goals as goal

pub text-name-requires : goal.text-name-requires
text-name-requires c =
    let nodes = c.args.p.now.t.now in
    let m = c.method-method.result.now in
    word_there nodes m.name (spelt_word nodes m (method_spelt nodes c.requires.ready.spelt.words c.args.m.0 m c.method-method.ensures))

pub add_point-requires : goal.add_point-requires
add_point-requires c =
    let nodes = c.args.p.now.t.now in
    let m = c.method-method.result.now in
    ap (list_all is_word_byte) (sym (text_is nodes m.name c.text-name.result.now c.text-name.ensures)) ∙ word_is nodes m.name (spelt_word nodes m (method_spelt nodes c.requires.ready.spelt.words c.args.m.0 m c.method-method.ensures))

pub add_all_kept-requires-clause-method : goal.add_all_kept-requires-clause-method
add_all_kept-requires-clause-method c =
    let nodes = c.args.p.now.t.now in
    let m = c.method-method.result.now in
    ap (list_all is_word_byte) (sym (text_is nodes m.name c.text-name.result.now c.text-name.ensures)) ∙ word_is nodes m.name (spelt_word nodes m (method_spelt nodes c.requires.ready.spelt.words c.args.m.0 m c.method-method.ensures))

pub add_all_kept-requires-clause-named : goal.add_all_kept-requires-clause-named
add_all_kept-requires-clause-named c =
    let nodes = c.args.p.now.t.now in
    let m = c.method-method.result.now in
    ap (are_named nodes) c.as_slice.ensures ∙ locals_named nodes m (method_spelt nodes c.requires.ready.spelt.words c.args.m.0 m c.method-method.ensures)

pub saved-requires : goal.saved-requires
saved-requires c = entry_there c.args.p.now.t.now c.args.m.0 saved_locals c.args.p.now.points.now.saved c.requires.ready.saved c.requires.ready.typed c.requires.known

pub add_all_kept-requires-clause-saved : goal.add_all_kept-requires-clause-saved
add_all_kept-requires-clause-saved c =
    let nodes = c.args.p.now.t.now in
    let m = c.method-method.result.now in
    let made = made_there nodes c.requires.ready.typed c.args.m.0 m c.method-method.ensures in
    entry_is nodes c.args.m.0 saved_locals c.args.p.now.points.now.saved c.requires.ready.saved c.saved.result.now (method_of nodes m made.0) c.saved.ensures made.1 ∙ ap (λ xs. locals_kept 0 (map (variable_of nodes) xs)) (sym c.as_slice.ensures)

pub started-requires : goal.started-requires
started-requires c = entry_there c.args.p.now.t.now c.args.m.0 started_of c.args.p.now.started.now c.requires.ready.started c.requires.ready.typed c.requires.known

pub add_started-requires : goal.add_started-requires
add_started-requires c =
    let nodes = c.args.p.now.t.now in
    let m = c.method-method.result.now in
    ap (list_all is_word_byte) (sym (text_is nodes m.name c.text-name.result.now c.text-name.ensures)) ∙ word_is nodes m.name (spelt_word nodes m (method_spelt nodes c.requires.ready.spelt.words c.args.m.0 m c.method-method.ensures))

pub returns-clause-grows : goal.returns-clause-grows
returns-clause-grows c = grows_on (grows_on c.add_point.ensures.grows c.add_all_kept.ensures.grows) c.add_started.ensures.grows

pub returns-clause-made : goal.returns-clause-made
returns-clause-made c =
    let nodes = c.args.p.now.t.now in
    let n = c.args.m.0 in
    let m = c.method-method.result.now in
    let made = made_there nodes c.requires.ready.typed n m c.method-method.ensures in
    let started = entry_is nodes n started_of c.args.p.now.started.now c.requires.ready.started c.started.result (method_of nodes m made.0) c.started.ensures made.1 in
    coroutine_kept nodes c.requires.ready.typed n m c.method-method.ensures _ _ _ _ c.add_started.result made.0 made.1
    (fields_after _ _ _ _ _ _ _ c.add_started.result (unchanged _ _ refl)
    (coroutine_made nodes m made.0 c.text-name.result.now c.as_slice.result.now c.started.result (text_is nodes m.name c.text-name.result.now c.text-name.ensures) c.as_slice.ensures started)
    (fields_then _ _ _ _ _ _ _ _ c.add_started.result (fields_on _ _ c.in_ok-add_point.ensures.made c.in_ok-add_all_kept.ensures.made) c.add_started.ensures.made))
