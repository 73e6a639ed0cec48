use Rattle.std.proofs.Common.{◌≡◌, All, length, vec_len}
use Rattle.nv_memory.proofs.sim_nv.images.Given as goal

abbrev pub invariant-loop : goal.invariant-loop
invariant-loop l = record {
  count : vec_len l.images ≡ l.counter;
  sized : All (λ image. length image.items ≡ 16384) l.images.items;
}
