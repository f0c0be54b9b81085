use Rattle.std.proofs.Common.{◌≡◌, ◌+◌, ◌∷◌, ◌∙◌, map, drop, length, refl, arith, ap}
use Rattle.std.proofs.lemmas.Result.{err_from_is_err_and}
use Rattle.wf_parse.proofs.PackageReading.{files_step, bytes_step, files_done, leads_start, leads_next, leads_done, leads_at, parse_fault, new_sound, new_nodes, new_texts, new_name}
use Rattle.wf_parse.proofs.parsing.read_nodes.Goals as goal

pub loop-bytes-init : goal.loop-bytes-init
loop-bytes-init c =
    let maker = c.in_ok-machine.machine.maker in
    let named = c.in_ok-machine.ensures.named in
    let no_nodes = new_nodes maker c.as_bytes.result.now named in
    let no_texts = new_texts maker c.as_bytes.result.now named in
    let few = c.requires.bytes in
    let count = c.requires.count in
    record {
      number = refl;
      sound = new_sound maker c.as_bytes.result.now named c.in_ok-machine.ensures.none;
      named = new_name maker c.as_bytes.result.now named ∙ c.as_bytes.ensures.value;
      leads = leads_start maker.package c.as_bytes.result.now (map (λ file. file.items) c.args.files.now) named;
      nodes = omega (arith, no_nodes, few, count);
      texts = omega (arith, no_texts, few);
    }

pub loop-bytes-preserved : goal.loop-bytes-preserved
loop-bytes-preserved c =
    let files = c.args.files.now in
    let index = c.loop-bytes.bytes-index in
    let item = c.bytes-item.result in
    let more = c.loop-bytes-test.true in
    let step = bytes_step (λ file. file.items) files index item more c.bytes-item.is in
    let here = leads_at index c.loop-bytes.most c.loop-bytes.machine.maker.package (drop index (map (λ file. file.items) files)) (item.items ∷ drop (index + 1) (map (λ file. file.items) files)) (map (λ file. file.items) files) (files_step (λ file. file.items) files index item more c.bytes-item.is) c.loop-bytes.invariant.leads in
    let long : length c.as_slice.result.now ≡ length item.items = ap length c.as_slice.ensures.value in
    let nodes_then = c.in_ok-most.ensures.nodes in
    let texts_then = c.in_ok-most.ensures.texts in
    let nodes_now = c.loop-bytes.invariant.nodes in
    let texts_now = c.loop-bytes.invariant.texts in
    record {
      number = omega (arith, c.loop-bytes.invariant.number);
      sound = c.in_ok-most.ensures.sound;
      named = c.in_ok-most.ensures.answers.named ∙ c.loop-bytes.invariant.named;
      leads = leads_next c.loop-bytes.number c.loop-bytes.most index c.in_ok-most.most c.as_slice.result.now item.items c.loop-bytes.machine.maker.package c.read_bytes.new.self.maker.package (drop (index + 1) (map (λ file. file.items) files)) (map (λ file. file.items) files) here c.loop-bytes.invariant.number c.as_slice.ensures.value c.in_ok-most.ensures.answers;
      nodes = omega (arith, step, long, nodes_then, nodes_now, more);
      texts = omega (arith, step, long, texts_then, texts_now);
    }

pub returns-in_err-most : goal.returns-in_err-most
returns-in_err-most c =
    let p = err_from_is_err_and c.from_residual-in_err-most.result c.from_residual-in_err-most.ensures.1 in
    let files = c.args.files.now in
    let index = c.loop-bytes.bytes-index in
    let item = c.bytes-item.result in
    let here = leads_at index c.loop-bytes.most c.loop-bytes.machine.maker.package (drop index (map (λ file. file.items) files)) (item.items ∷ drop (index + 1) (map (λ file. file.items) files)) (map (λ file. file.items) files) (files_step (λ file. file.items) files index item c.loop-bytes-test.true c.bytes-item.is) c.loop-bytes.invariant.leads in
    rw (p.1, p.2) (parse_fault c.args.name.now c.loop-bytes.number c.loop-bytes.most index c.as_slice.result.now item.items c.loop-bytes.machine.maker.package c.read_bytes.new.self.maker.package (drop (index + 1) (map (λ file. file.items) files)) (map (λ file. file.items) files) c.in_err-most.field-0.0 here c.loop-bytes.invariant.number c.as_slice.ensures.value c.in_err-most.ensures.answers)

pub returns : goal.returns
returns c =
    let files = c.args.files.now in
    let package_now = c.loop-bytes.machine.maker.package in
    let index = c.loop-bytes.bytes-index in
    let test = c.loop-bytes-test.false in
    let here = leads_at index c.loop-bytes.most package_now (drop index (map (λ file. file.items) files)) _ (map (λ file. file.items) files) (files_done (λ file. file.items) files index test) c.loop-bytes.invariant.leads in
    record { named = c.loop-bytes.invariant.named; read = leads_done index c.loop-bytes.most package_now (map (λ file. file.items) files) here }
