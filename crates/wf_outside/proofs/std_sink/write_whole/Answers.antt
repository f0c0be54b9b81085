use Rattle.std.proofs.Common.{◌≡◌, ℕ, ◌+◌, List, Option, take, drop, sym, subst, arith}
use Rattle.std.proofs.Math.Seq.{take-add}
use Rattle.std.proofs.KnownBytes.{Appends-trans}
use Rattle.std.specs.Io.KnownBytes.{Appends}
use Rattle.wf_outside.proofs.std_sink.write_whole.Goals as goal

-- what was taken before and what one more write takes is one front part of the piece
more_taken : (old between new : Option (List ℕ)) (gone count : ℕ) (piece rest : List ℕ) → rest ≡ drop gone piece
    → Appends old between (take gone piece) → Appends between new (take count rest) → Appends old new (take (gone + count) piece)
more_taken old between new gone count piece rest behind before next =
    let P : List ℕ → Type 0 = λ bytes. Appends old new bytes in
    let Q : List ℕ → Type 0 = λ bytes. Appends between new (take count bytes) in
    subst P (sym (take-add gone count piece)) (Appends-trans old between new _ _ before (subst Q behind next))

pub loop-gone-preserved : goal.loop-gone-preserved
loop-gone-preserved g c = record {
  within = omega (arith, c.in-Ok.ensures.bound, c.split_at.ensures.back_len, c.loop-gone.invariant.within);
  taken = more_taken _ _ _ _ _ _ _ c.split_at.ensures.back c.loop-gone.invariant.taken c.in-Ok.ensures.bytes;
}
