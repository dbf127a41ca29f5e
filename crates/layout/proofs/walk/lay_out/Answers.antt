use Rattle.layout.proofs.TextTrips.{round_trip}
use Rattle.layout.proofs.Backs.{accepted}
use Rattle.layout.proofs.walk.lay_out.Goals as goal

pub returns : goal.returns
returns c = record { answer = c.walk.ensures; round_trip = round_trip; accepted = accepted }
