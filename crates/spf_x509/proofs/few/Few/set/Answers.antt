use Rattle.std.proofs.Common.{◌≡◌, ℕ, ◌*◌, ◌^◌, ◌<◌, ◌≤◌, refl, arith}
use Rattle.std.proofs.Math.Nat.{mul-le-mul_right}
use Rattle.spf_x509.proofs.few.Few.set.Goals as goal

place_fits : (i n size : ℕ) → i < n → n * size < 2 ^ 63 → i * size < 2 ^ 64
place_fits i n size lt fits =
    let le : i * size ≤ n * size = mul-le-mul_right size (omega arith) in
    omega arith

pub offset_bounds-as_mut_slice-index : goal.offset_bounds-as_mut_slice-index
offset_bounds-as_mut_slice-index g c =
    let fits = place_fits c.args.index _ _
    (rw c.as_mut_slice.ensures.value (rw c.in-Two.is at c.requires)) c.as_mut_slice.type_inv.1 in
    omega arith

pub bounds-as_mut_slice-index : goal.bounds-as_mut_slice-index
bounds-as_mut_slice-index g c = rw c.as_mut_slice.ensures.value (rw c.in-Two.is at c.requires)

pub index_mut-requires : goal.index_mut-requires
index_mut-requires g c = omega (arith, c.in-Listed.list.ok.0, rw c.in-Listed.is at c.requires)

pub returns-in-Nothing : goal.returns-in-Nothing
returns-in-Nothing g c = absurd (omega (arith, rw c.in-Nothing.is at c.requires))

pub returns-in-One : goal.returns-in-One
returns-in-One g c =
    let first : c.args.index ≡ 0 = omega (arith, rw c.in-One.is at c.requires) in
    rw (c.in-One.is, first) refl

pub returns-in-Two : goal.returns-in-Two
returns-in-Two g c = rw (c.as_mut_slice.ensures.value, c.in-Two.is) refl

pub returns-in-Listed : goal.returns-in-Listed
returns-in-Listed g c = rw c.in-Listed.is refl
