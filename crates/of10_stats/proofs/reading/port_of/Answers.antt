use Rattle.of10_stats.specs.Reading.{port_of}
use Rattle.of10_stats.proofs.reading.port_of.Goals as goal

pub returns : goal.returns
unfolding port_of
returns c = λ i. record {
  port_no = c.u16_at.ensures i;
  rx_packets = c.u64_at.ensures i;
  tx_packets = c.u64_at-2.ensures i;
  rx_bytes = c.u64_at-3.ensures i;
  tx_bytes = c.u64_at-4.ensures i;
  rx_dropped = c.u64_at-5.ensures i;
  tx_dropped = c.u64_at-6.ensures i;
  rx_errors = c.u64_at-7.ensures i;
  tx_errors = c.u64_at-8.ensures i;
  rx_frame_err = c.u64_at-9.ensures i;
  rx_over_err = c.u64_at-10.ensures i;
  rx_crc_err = c.u64_at-11.ensures i;
  collisions = c.u64_at-12.ensures i;
}
