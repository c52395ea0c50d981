use Rattle.point_proof.proofs.proving.prove.Goals as goal

pub returns-clause-proof : goal.returns-clause-proof
returns-clause-proof g c = λ m t.
    let laws = g.met.N.NodeSource.lawful in
    let value = c.in_ok-value.ensures.value m (laws.calm_told c.args.source.now c.path_of.new.source m c.in_ok-path.ensures.answers.calm t) in
    let way = c.in_ok-path.ensures.path m t in
    cc
