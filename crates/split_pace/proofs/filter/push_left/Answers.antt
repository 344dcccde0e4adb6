use Rattle.split_pace.proofs.filter.push_left.Goals as goal

pub returns-in-Every : goal.returns-in-Every
returns-in-Every g c = rw c.in-Every.is c.push_repeated.ensures
