-- What the splits on the way to a node leave.
use Rattle.bound_cert.specs.Prelude.{Narrowing, narrowed}
use Rattle.bound_cert.specs.declared.ways.Way.{Way, Start, Turn'}
use Rattle.bound_cert.specs.Certificate.{all_left}

-- the packages left to each client at the end of a way
abbrev pub left_by : Way → Narrowing
left_by Start = all_left
left_by (Turn' client feature value place before) = narrowed (left_by before) client feature value
