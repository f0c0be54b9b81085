use Rattle.c_text.proofs.print_items.function_head.Goals as goal

pub returns-clause-writes : goal.returns-clause-writes
returns-clause-writes g c =
    let j = g.met.P.Pen.joined in
    let r1 = j _ _ _ _ _ (rw c.linkage_words.ensures at c.write.ensures.writes) c.result_type.ensures.writes in
    let r2 = j _ _ _ _ _ r1 c.write-2.ensures.writes in
    let r3 = j _ _ _ _ _ r2 (rw c.name.ensures at c.write-3.ensures.writes) in
    let r4 = j _ _ _ _ _ r3 c.write-4.ensures.writes in
    let r5 = j _ _ _ _ _ r4 c.params.ensures.writes in
    let r6 = j _ _ _ _ _ r5 c.write-5.ensures.writes in
    r6
