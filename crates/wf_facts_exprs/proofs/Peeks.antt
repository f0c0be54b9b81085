-- What a peek sees is a number of its width.
use Rattle.std.proofs.Common.{◌≡◌, ℕ, zero, suc, ◌+◌, ◌-◌, ◌*◌, ◌^◌, ◌<◌, ◌≤◌, List, [], ◌∷◌, length, take, sym, subst, arith, length-take}
use Rattle.std.specs.List.{All}
use Rattle.std.proofs.lemmas.List.Elements.{All-take, All-drop, All-head, All-tail}
use Rattle.std.proofs.lemmas.Nat.{pow_pos, pow-add}
use Rattle.wf_base.specs.declared.base_methods.PeekForm.{PeekForm}
use Rattle.wf_base.specs.declared.base_methods.PeekForm.TheVariants.{PeekU8, PeekU16Le, PeekU32Le}
use Rattle.wf_base.specs.BaseOps.{Buffer, little_endian, unread}
use Rattle.wf_base.specs.BaseOps as ops
use Rattle.wf_base.specs.BaseTable.{bits_of, peek_width, peek_value}

-- What bytes spell is a number of as many bits.
pub little-small : (n : ℕ) (xs : List ℕ) → length xs ≤ n → All (λ cell. cell < 2 ^ 8) xs → little_endian xs < 2 ^ (8 * n)
little-small n [] h all = pow_pos (8 * n)
little-small zero (x ∷ xs) h all = absurd (omega (arith, h))
little-small (suc n) (x ∷ xs) h all =
    let first : x < 2 ^ 8 = All-head (λ cell. cell < 2 ^ 8) x xs all in
    let rest : little_endian xs < 2 ^ (8 * n) = little-small n xs (omega (arith, h)) (All-tail (λ cell. cell < 2 ^ 8) x xs all) in
    let same : 2 ^ (8 + 8 * n) ≡ 2 ^ 8 * 2 ^ (8 * n) = pow-add 2 8 (8 * n) in
    let more : 8 * suc n ≡ 8 + 8 * n = omega arith in
    let P : ℕ → Type 0 = λ k. x + 2 ^ 8 * little_endian xs < 2 ^ k in
    subst P (sym more) (omega (arith, first, rest, same))

seen-small : (n : ℕ) (b : Buffer) → ops.IsLawful b → little_endian (take n (unread b)) < 2 ^ (8 * n)
seen-small n b h =
    little-small n (take n (unread b)) (omega (arith, length-take n (unread b)))
    (All-take (λ cell. cell < 2 ^ 8) n (unread b) (All-take (λ cell. cell < 2 ^ 8) (b.wi - b.ri) _ (All-drop (λ cell. cell < 2 ^ 8) b.ri b.cells h.bytes)))

pub peek-small : (form : PeekForm) (b : Buffer) → ops.IsLawful b → peek_value form b < 2 ^ bits_of (peek_width form)
peek-small PeekU8 b h = seen-small 1 b h
peek-small PeekU16Le b h = seen-small 2 b h
peek-small PeekU32Le b h = seen-small 4 b h
