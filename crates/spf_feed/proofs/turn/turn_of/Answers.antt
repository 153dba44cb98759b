use Rattle.spf_feed.proofs.turn.turn_of.Goals as goal

pub returns-in-ClientFailed-clause-may : goal.returns-in-ClientFailed-clause-may
returns-in-ClientFailed-clause-may g c = c.failure_turn.ensures.may c.args.rules.limits

pub returns-in-ConnectStatus-clause-may : goal.returns-in-ConnectStatus-clause-may
returns-in-ConnectStatus-clause-may g c = c.connect_turn.ensures.may c.args.rules.limits

pub returns-in-ItemStatus-clause-may : goal.returns-in-ItemStatus-clause-may
returns-in-ItemStatus-clause-may g c = c.item_status_turn.ensures.may c.args.rules.limits

pub returns-in-Close-clause-may : goal.returns-in-Close-clause-may
returns-in-Close-clause-may g c = c.close_turn.ensures.may c.args.rules.limits

pub returns-in-ClientFailed-clause-turn : goal.returns-in-ClientFailed-clause-turn
returns-in-ClientFailed-clause-turn g c = rw c.in-ClientFailed.is c.failure_turn.ensures.turn

pub returns-in-ConnectStatus-clause-turn : goal.returns-in-ConnectStatus-clause-turn
returns-in-ConnectStatus-clause-turn g c = rw c.in-ConnectStatus.is c.connect_turn.ensures.turn

pub returns-in-ItemStatus-clause-turn : goal.returns-in-ItemStatus-clause-turn
returns-in-ItemStatus-clause-turn g c = rw c.in-ItemStatus.is c.item_status_turn.ensures.turn
