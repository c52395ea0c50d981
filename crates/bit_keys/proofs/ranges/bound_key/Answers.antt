use Rattle.bit_keys.proofs.ranges.bound_key.Goals as goal

pub returns-in-Some-clause-bytes : goal.returns-in-Some-clause-bytes
returns-in-Some-clause-bytes c = rw c.in-Some.is c.from_vec.ensures.bytes
